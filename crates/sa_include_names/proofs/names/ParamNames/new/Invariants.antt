use Rattle.std.proofs.Common.{◌≡◌, ℕ, List, nat_eq, take}
use Rattle.std.specs.Cmp.Lexicographic.{pointwise}
use Rattle.indexmap.specs.IndexSet.{contains}
use Rattle.sa_include_names.specs.Names.{hides}
use Rattle.sa_include_names.proofs.names.ParamNames.new.Given as goal

abbrev pub invariant-loop-param : goal.invariant-loop-param
invariant-loop-param l = (name : List ℕ) → contains (pointwise nat_eq) l.names name ≡ hides (take l.param-index l.params) name
