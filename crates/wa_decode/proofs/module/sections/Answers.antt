use Rattle.wa_decode.proofs.Sections.{returned-to}
use Rattle.wa_decode.proofs.SectionRow.{and-ok, and-err, and-none, codes_as, module-ok, module-err, parts_2, parts_3, parts_4, parts_5, parts_6, parts_7, parts_8, parts_9, parts_10, parts_11}
use Rattle.wa_decode.proofs.module.sections.Goals as goal

pub returns-in_err-types-clause-reads : goal.returns-in_err-types-clause-reads
returns-in_err-types-clause-reads c =
    returned-to _ c.from_residual.ensures.1
    (module-err (and-none (λ value mid. parts_2 c.args.bytes.now mid) c.in_err-types.ensures.reads))

pub returns-in_err-imports-clause-reads : goal.returns-in_err-imports-clause-reads
returns-in_err-imports-clause-reads c =
    returned-to _ c.from_residual-in_err-imports.ensures.1
    (module-err (and-err c.in_ok-types.ensures.reads (and-none (λ value mid. parts_3 c.args.bytes.now mid) c.in_err-imports.ensures.reads)))

pub returns-in_err-func_types-clause-reads : goal.returns-in_err-func_types-clause-reads
returns-in_err-func_types-clause-reads c =
    returned-to _ c.from_residual-in_err-func_types.ensures.1
    (module-err (and-err c.in_ok-types.ensures.reads (and-err c.in_ok-imports.ensures.reads (and-none (λ indices mid. parts_4 c.args.bytes.now indices mid) c.in_err-func_types.ensures.reads))))

pub returns-in_err-tables-clause-reads : goal.returns-in_err-tables-clause-reads
returns-in_err-tables-clause-reads c =
    returned-to _ c.from_residual-in_err-tables.ensures.1
    (module-err (and-err c.in_ok-types.ensures.reads (and-err c.in_ok-imports.ensures.reads (and-err c.in_ok-func_types.ensures.reads (and-none (λ value mid. parts_5 c.args.bytes.now c.in_ok-func_types.func_types mid) c.in_err-tables.ensures.reads)))))

pub returns-in_err-memories-clause-reads : goal.returns-in_err-memories-clause-reads
returns-in_err-memories-clause-reads c =
    returned-to _ c.from_residual-in_err-memories.ensures.1
    (module-err (and-err c.in_ok-types.ensures.reads (and-err c.in_ok-imports.ensures.reads (and-err c.in_ok-func_types.ensures.reads (and-err c.in_ok-tables.ensures.reads (and-none (λ value mid. parts_6 c.args.bytes.now c.in_ok-func_types.func_types mid) c.in_err-memories.ensures.reads))))))

pub returns-in_err-globals-clause-reads : goal.returns-in_err-globals-clause-reads
returns-in_err-globals-clause-reads c =
    returned-to _ c.from_residual-in_err-globals.ensures.1
    (module-err (and-err c.in_ok-types.ensures.reads (and-err c.in_ok-imports.ensures.reads (and-err c.in_ok-func_types.ensures.reads (and-err c.in_ok-tables.ensures.reads (and-err c.in_ok-memories.ensures.reads (and-none (λ value mid. parts_7 c.args.bytes.now c.in_ok-func_types.func_types mid) c.in_err-globals.ensures.reads)))))))

pub returns-in_err-exports-clause-reads : goal.returns-in_err-exports-clause-reads
returns-in_err-exports-clause-reads c =
    returned-to _ c.from_residual-in_err-exports.ensures.1
    (module-err (and-err c.in_ok-types.ensures.reads (and-err c.in_ok-imports.ensures.reads (and-err c.in_ok-func_types.ensures.reads (and-err c.in_ok-tables.ensures.reads (and-err c.in_ok-memories.ensures.reads (and-err c.in_ok-globals.ensures.reads (and-none (λ value mid. parts_8 c.args.bytes.now c.in_ok-func_types.func_types mid) c.in_err-exports.ensures.reads))))))))

pub returns-in_err-start-clause-reads : goal.returns-in_err-start-clause-reads
returns-in_err-start-clause-reads c =
    returned-to _ c.from_residual-in_err-start.ensures.1
    (module-err (and-err c.in_ok-types.ensures.reads (and-err c.in_ok-imports.ensures.reads (and-err c.in_ok-func_types.ensures.reads (and-err c.in_ok-tables.ensures.reads (and-err c.in_ok-memories.ensures.reads (and-err c.in_ok-globals.ensures.reads (and-err c.in_ok-exports.ensures.reads (and-none (λ value mid. parts_9 c.args.bytes.now c.in_ok-func_types.func_types mid) c.in_err-start.ensures.reads)))))))))

pub returns-in_err-elems-clause-reads : goal.returns-in_err-elems-clause-reads
returns-in_err-elems-clause-reads c =
    returned-to _ c.from_residual-in_err-elems.ensures.1
    (module-err (and-err c.in_ok-types.ensures.reads (and-err c.in_ok-imports.ensures.reads (and-err c.in_ok-func_types.ensures.reads (and-err c.in_ok-tables.ensures.reads (and-err c.in_ok-memories.ensures.reads (and-err c.in_ok-globals.ensures.reads (and-err c.in_ok-exports.ensures.reads (and-err c.in_ok-start.ensures.reads (and-none (λ value mid. parts_10 c.args.bytes.now c.in_ok-func_types.func_types mid) c.in_err-elems.ensures.reads))))))))))

pub returns-in_err-funcs-clause-reads : goal.returns-in_err-funcs-clause-reads
returns-in_err-funcs-clause-reads c =
    returned-to _ c.from_residual-in_err-funcs.ensures.1
    (module-err (and-err c.in_ok-types.ensures.reads (and-err c.in_ok-imports.ensures.reads (and-err c.in_ok-func_types.ensures.reads (and-err c.in_ok-tables.ensures.reads (and-err c.in_ok-memories.ensures.reads (and-err c.in_ok-globals.ensures.reads (and-err c.in_ok-exports.ensures.reads (and-err c.in_ok-start.ensures.reads (and-err c.in_ok-elems.ensures.reads (and-none (λ funcs mid. parts_11 c.args.bytes.now mid) (codes_as c.as_slice.ensures c.in_err-funcs.ensures.reads))))))))))))

pub returns-in_err-segments-clause-reads : goal.returns-in_err-segments-clause-reads
returns-in_err-segments-clause-reads c =
    returned-to _ c.from_residual-in_err-segments.ensures.1
    (module-err (and-err c.in_ok-types.ensures.reads (and-err c.in_ok-imports.ensures.reads (and-err c.in_ok-func_types.ensures.reads (and-err c.in_ok-tables.ensures.reads (and-err c.in_ok-memories.ensures.reads (and-err c.in_ok-globals.ensures.reads (and-err c.in_ok-exports.ensures.reads (and-err c.in_ok-start.ensures.reads (and-err c.in_ok-elems.ensures.reads (and-err (codes_as c.as_slice.ensures c.in_ok-funcs.ensures.reads) c.in_err-segments.ensures.reads)))))))))))

pub returns-clause-reads : goal.returns-clause-reads
returns-clause-reads c =
    module-ok _ _ _ _ _ _ _ _ _ _ _
    (and-ok c.in_ok-types.ensures.reads (and-ok c.in_ok-imports.ensures.reads (and-ok c.in_ok-func_types.ensures.reads (and-ok c.in_ok-tables.ensures.reads (and-ok c.in_ok-memories.ensures.reads (and-ok c.in_ok-globals.ensures.reads (and-ok c.in_ok-exports.ensures.reads (and-ok c.in_ok-start.ensures.reads (and-ok c.in_ok-elems.ensures.reads (and-ok (codes_as c.as_slice.ensures c.in_ok-funcs.ensures.reads) c.in_ok-segments.ensures.reads))))))))))
