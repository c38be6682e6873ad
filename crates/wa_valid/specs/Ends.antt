-- The types that runs of locals denote, where each run has the number of the locals up to its end.
use Rattle.std.specs.Prelude.{ℕ, ◌-◌, List, [], ◌∷◌, ◌++◌, replicate}
use Rattle.wa_syntax.specs.declared.module.ValTy.{ValTy}
use Rattle.wa_valid.specs.declared.locals.LocalRunEnd.{LocalRunEnd}

-- the types of locals of which runs end at these numbers, from a number on
abbrev pub types_of_ends : ℕ → List LocalRunEnd → List ValTy
types_of_ends from [] = []
types_of_ends from (run ∷ runs) = replicate (run.end - from) run.ty ++ types_of_ends run.end runs
