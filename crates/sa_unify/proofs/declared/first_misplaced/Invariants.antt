use Rattle.std.proofs.Common.{◌≡◌, drop, slice_get}
use Rattle.sa_unify.specs.Numbers.{kind_of_name}
use Rattle.sa_unify.specs.Supertypes.{misplaced}
use Rattle.sa_unify.proofs.declared.first_misplaced.Given as goal

abbrev pub invariant-loop-class : goal.invariant-loop-class
invariant-loop-class l =
    slice_get (misplaced (kind_of_name l.names) l.classes) 0 ≡ slice_get (misplaced (kind_of_name l.names) (drop l.class-index l.classes)) 0
