-- What the parts of a module may name, as the code holds it.
use Rattle.std.specs.Prelude.{◌≢◌, List, [], ◌++◌, map, reverse, Option, option_to_list}
use Rattle.wa_syntax.specs.declared.module.ValTy.{ValTy}
use Rattle.wa_syntax.specs.declared.instr.Instr.{Instr}
use Rattle.wa_syntax.specs.declared.instr.Instr.TheVariants as i
use Rattle.wa_syntax.specs.Validity as validity
use Rattle.wa_valid.specs.declared.context.Context.{Context}
use Rattle.wa_valid.specs.declared.instruction.Scope.{Scope}

-- the names outside bodies
abbrev pub names : Context → validity.Context
names c = record {
  types = c.types.now;
  funcs = c.funcs;
  tables = c.tables;
  memories = c.memories;
  globals = c.globals;
  locals = [];
  labels = [];
  results = [];
}

-- the names in a body, inside blocks with these labels, the innermost last
abbrev pub names_in : Scope → List (Option ValTy) → validity.Context
names_in scope labels = record {
  types = scope.context.now.types.now;
  funcs = scope.context.now.funcs;
  tables = scope.context.now.tables;
  memories = scope.context.now.memories;
  globals = scope.context.now.globals;
  locals = scope.func.now.params ++ scope.declared.now;
  labels = map option_to_list (reverse labels);
  results = scope.func.now.results;
}

-- the instruction holds no others
abbrev pub HoldsNone : Instr → Type 0
HoldsNone instr =
    ((result : Option ValTy) (body : List Instr) → instr ≢ i.Block result body)
    × ((result : Option ValTy) (body : List Instr) → instr ≢ i.Loop result body)
    × ((result : Option ValTy) (arms : List Instr × List Instr) → instr ≢ i.If result arms)
