-- The types that runs of locals denote.
use Rattle.std.specs.Prelude.{List, [], ◌∷◌, ◌++◌, replicate}
use Rattle.wa_syntax.specs.declared.module.ValTy.{ValTy}
use Rattle.wa_syntax.specs.declared.locals.LocalRun.{LocalRun}

-- the type of each local, in order
abbrev pub types_of_runs : List LocalRun → List ValTy
types_of_runs [] = []
types_of_runs (run ∷ runs) = replicate run.count run.ty ++ types_of_runs runs
