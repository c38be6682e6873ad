use Rattle.std.proofs.Common.{◌≡◌, drop, flat_map, slice_get}
use Rattle.sa_unify.specs.Numbers.{kind_of_name}
use Rattle.sa_unify.specs.Supertypes.{misplaced_type}
use Rattle.sa_unify.proofs.declared.first_of.Given as goal

abbrev pub invariant-loop-ty : goal.invariant-loop-ty
invariant-loop-ty l =
    slice_get (flat_map (misplaced_type (kind_of_name l.names)) l.types) 0 ≡ slice_get (flat_map (misplaced_type (kind_of_name l.names)) (drop l.ty-index l.types)) 0
