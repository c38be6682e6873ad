use Rattle.wa_text.proofs.Lines.{join}
use Rattle.wa_text.proofs.NoModule.{fail_elems, fail_exports, fail_funcs, fail_globals, fail_imports, fail_memories, fail_segments, fail_start, fail_tables, fail_types, pass_elems, pass_exports, pass_funcs, pass_globals, pass_imports, pass_memories, pass_segments, pass_start, pass_tables, pass_types, refused_module}
use Rattle.wa_text.proofs.Refusals.{refuses_at, returned}
use Rattle.wa_text.proofs.reader.module.module.Goals as goal

pub returns-clause-found : goal.returns-clause-found
returns-clause-found c =
    join c.in_ok-types.ensures.found (join c.in_ok-imports.ensures.found (join c.in_ok-funcs.ensures.found (join c.in_ok-tables.ensures.found (join c.in_ok-memories.ensures.found (join c.in_ok-globals.ensures.found (join c.in_ok-exports.ensures.found (join c.in_ok-start.ensures.found (join c.in_ok-elems.ensures.found c.in_ok-segments.ensures.found))))))))

pub returns-in_err-types-clause-refused : goal.returns-in_err-types-clause-refused
returns-in_err-types-clause-refused c =
    returned _ _ _ c.from_residual.ensures.1 (refuses_at c.in_err-types.field-0.0 (λ at r. refused_module
    (fail_types r)) c.in_err-types.ensures.refused)

pub returns-in_err-imports-clause-refused : goal.returns-in_err-imports-clause-refused
returns-in_err-imports-clause-refused c =
    returned _ _ _ c.from_residual-in_err-imports.ensures.1 (refuses_at c.in_err-imports.field-0.0 (λ at r. refused_module
    (pass_types c.in_ok-types.types c.in_ok-types.ensures.found c.in_ok-types.ensures.stops
    (fail_imports r))) c.in_err-imports.ensures.refused)

pub returns-in_err-funcs-clause-refused : goal.returns-in_err-funcs-clause-refused
returns-in_err-funcs-clause-refused c =
    returned _ _ _ c.from_residual-in_err-funcs.ensures.1 (refuses_at c.in_err-funcs.field-0.0 (λ at r. refused_module
    (pass_types c.in_ok-types.types c.in_ok-types.ensures.found c.in_ok-types.ensures.stops
    (pass_imports c.in_ok-imports.imports c.in_ok-imports.ensures.found c.in_ok-imports.ensures.stops
    (fail_funcs r)))) c.in_err-funcs.ensures.refused)

pub returns-in_err-tables-clause-refused : goal.returns-in_err-tables-clause-refused
returns-in_err-tables-clause-refused c =
    returned _ _ _ c.from_residual-in_err-tables.ensures.1 (refuses_at c.in_err-tables.field-0.0 (λ at r. refused_module
    (pass_types c.in_ok-types.types c.in_ok-types.ensures.found c.in_ok-types.ensures.stops
    (pass_imports c.in_ok-imports.imports c.in_ok-imports.ensures.found c.in_ok-imports.ensures.stops
    (pass_funcs c.in_ok-funcs.funcs c.in_ok-funcs.ensures.found c.in_ok-funcs.ensures.stops
    (fail_tables r))))) c.in_err-tables.ensures.refused)

pub returns-in_err-memories-clause-refused : goal.returns-in_err-memories-clause-refused
returns-in_err-memories-clause-refused c =
    returned _ _ _ c.from_residual-in_err-memories.ensures.1 (refuses_at c.in_err-memories.field-0.0 (λ at r. refused_module
    (pass_types c.in_ok-types.types c.in_ok-types.ensures.found c.in_ok-types.ensures.stops
    (pass_imports c.in_ok-imports.imports c.in_ok-imports.ensures.found c.in_ok-imports.ensures.stops
    (pass_funcs c.in_ok-funcs.funcs c.in_ok-funcs.ensures.found c.in_ok-funcs.ensures.stops
    (pass_tables c.in_ok-tables.tables c.in_ok-tables.ensures.found c.in_ok-tables.ensures.stops
    (fail_memories r)))))) c.in_err-memories.ensures.refused)

pub returns-in_err-globals-clause-refused : goal.returns-in_err-globals-clause-refused
returns-in_err-globals-clause-refused c =
    returned _ _ _ c.from_residual-in_err-globals.ensures.1 (refuses_at c.in_err-globals.field-0.0 (λ at r. refused_module
    (pass_types c.in_ok-types.types c.in_ok-types.ensures.found c.in_ok-types.ensures.stops
    (pass_imports c.in_ok-imports.imports c.in_ok-imports.ensures.found c.in_ok-imports.ensures.stops
    (pass_funcs c.in_ok-funcs.funcs c.in_ok-funcs.ensures.found c.in_ok-funcs.ensures.stops
    (pass_tables c.in_ok-tables.tables c.in_ok-tables.ensures.found c.in_ok-tables.ensures.stops
    (pass_memories c.in_ok-memories.memories c.in_ok-memories.ensures.found c.in_ok-memories.ensures.stops
    (fail_globals r))))))) c.in_err-globals.ensures.refused)

pub returns-in_err-exports-clause-refused : goal.returns-in_err-exports-clause-refused
returns-in_err-exports-clause-refused c =
    returned _ _ _ c.from_residual-in_err-exports.ensures.1 (refuses_at c.in_err-exports.field-0.0 (λ at r. refused_module
    (pass_types c.in_ok-types.types c.in_ok-types.ensures.found c.in_ok-types.ensures.stops
    (pass_imports c.in_ok-imports.imports c.in_ok-imports.ensures.found c.in_ok-imports.ensures.stops
    (pass_funcs c.in_ok-funcs.funcs c.in_ok-funcs.ensures.found c.in_ok-funcs.ensures.stops
    (pass_tables c.in_ok-tables.tables c.in_ok-tables.ensures.found c.in_ok-tables.ensures.stops
    (pass_memories c.in_ok-memories.memories c.in_ok-memories.ensures.found c.in_ok-memories.ensures.stops
    (pass_globals c.in_ok-globals.globals c.in_ok-globals.ensures.found c.in_ok-globals.ensures.stops
    (fail_exports r)))))))) c.in_err-exports.ensures.refused)

pub returns-in_err-start-clause-refused : goal.returns-in_err-start-clause-refused
returns-in_err-start-clause-refused c =
    returned _ _ _ c.from_residual-in_err-start.ensures.1 (refuses_at c.in_err-start.field-0.0 (λ at r. refused_module
    (pass_types c.in_ok-types.types c.in_ok-types.ensures.found c.in_ok-types.ensures.stops
    (pass_imports c.in_ok-imports.imports c.in_ok-imports.ensures.found c.in_ok-imports.ensures.stops
    (pass_funcs c.in_ok-funcs.funcs c.in_ok-funcs.ensures.found c.in_ok-funcs.ensures.stops
    (pass_tables c.in_ok-tables.tables c.in_ok-tables.ensures.found c.in_ok-tables.ensures.stops
    (pass_memories c.in_ok-memories.memories c.in_ok-memories.ensures.found c.in_ok-memories.ensures.stops
    (pass_globals c.in_ok-globals.globals c.in_ok-globals.ensures.found c.in_ok-globals.ensures.stops
    (pass_exports c.in_ok-exports.exports c.in_ok-exports.ensures.found c.in_ok-exports.ensures.stops
    (fail_start r))))))))) c.in_err-start.ensures.refused)

pub returns-in_err-elems-clause-refused : goal.returns-in_err-elems-clause-refused
returns-in_err-elems-clause-refused c =
    returned _ _ _ c.from_residual-in_err-elems.ensures.1 (refuses_at c.in_err-elems.field-0.0 (λ at r. refused_module
    (pass_types c.in_ok-types.types c.in_ok-types.ensures.found c.in_ok-types.ensures.stops
    (pass_imports c.in_ok-imports.imports c.in_ok-imports.ensures.found c.in_ok-imports.ensures.stops
    (pass_funcs c.in_ok-funcs.funcs c.in_ok-funcs.ensures.found c.in_ok-funcs.ensures.stops
    (pass_tables c.in_ok-tables.tables c.in_ok-tables.ensures.found c.in_ok-tables.ensures.stops
    (pass_memories c.in_ok-memories.memories c.in_ok-memories.ensures.found c.in_ok-memories.ensures.stops
    (pass_globals c.in_ok-globals.globals c.in_ok-globals.ensures.found c.in_ok-globals.ensures.stops
    (pass_exports c.in_ok-exports.exports c.in_ok-exports.ensures.found c.in_ok-exports.ensures.stops
    (pass_start c.in_ok-start.start c.in_ok-start.ensures.found c.in_ok-start.ensures.stops
    (fail_elems r)))))))))) c.in_err-elems.ensures.refused)

pub returns-in_err-segments-clause-refused : goal.returns-in_err-segments-clause-refused
returns-in_err-segments-clause-refused c =
    returned _ _ _ c.from_residual-in_err-segments.ensures.1 (refuses_at c.in_err-segments.field-0.0 (λ at r. refused_module
    (pass_types c.in_ok-types.types c.in_ok-types.ensures.found c.in_ok-types.ensures.stops
    (pass_imports c.in_ok-imports.imports c.in_ok-imports.ensures.found c.in_ok-imports.ensures.stops
    (pass_funcs c.in_ok-funcs.funcs c.in_ok-funcs.ensures.found c.in_ok-funcs.ensures.stops
    (pass_tables c.in_ok-tables.tables c.in_ok-tables.ensures.found c.in_ok-tables.ensures.stops
    (pass_memories c.in_ok-memories.memories c.in_ok-memories.ensures.found c.in_ok-memories.ensures.stops
    (pass_globals c.in_ok-globals.globals c.in_ok-globals.ensures.found c.in_ok-globals.ensures.stops
    (pass_exports c.in_ok-exports.exports c.in_ok-exports.ensures.found c.in_ok-exports.ensures.stops
    (pass_start c.in_ok-start.start c.in_ok-start.ensures.found c.in_ok-start.ensures.stops
    (pass_elems c.in_ok-elems.elems c.in_ok-elems.ensures.found c.in_ok-elems.ensures.stops
    (fail_segments r))))))))))) c.in_err-segments.ensures.refused)

pub returns-clause-whole : goal.returns-clause-whole
returns-clause-whole c = λ some. refused_module
    (pass_types c.in_ok-types.types c.in_ok-types.ensures.found c.in_ok-types.ensures.stops
    (pass_imports c.in_ok-imports.imports c.in_ok-imports.ensures.found c.in_ok-imports.ensures.stops
    (pass_funcs c.in_ok-funcs.funcs c.in_ok-funcs.ensures.found c.in_ok-funcs.ensures.stops
    (pass_tables c.in_ok-tables.tables c.in_ok-tables.ensures.found c.in_ok-tables.ensures.stops
    (pass_memories c.in_ok-memories.memories c.in_ok-memories.ensures.found c.in_ok-memories.ensures.stops
    (pass_globals c.in_ok-globals.globals c.in_ok-globals.ensures.found c.in_ok-globals.ensures.stops
    (pass_exports c.in_ok-exports.exports c.in_ok-exports.ensures.found c.in_ok-exports.ensures.stops
    (pass_start c.in_ok-start.start c.in_ok-start.ensures.found c.in_ok-start.ensures.stops
    (pass_elems c.in_ok-elems.elems c.in_ok-elems.ensures.found c.in_ok-elems.ensures.stops
    (pass_segments c.in_ok-segments.segments c.in_ok-segments.ensures.found c.in_ok-segments.ensures.stops some))))))))))
