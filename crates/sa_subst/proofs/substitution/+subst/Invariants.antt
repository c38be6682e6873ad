use Rattle.std.proofs.Common.{◌≡◌, map, take}
use Rattle.sa_subst.specs.Substitution.{substituted, substituted_arg}
use Rattle.sa_subst.specs.Table.{value_in}
use Rattle.sa_subst.proofs.substitution.+subst.Given as goal

abbrev pub invariant-subst_args-loop-arg : goal.invariant-subst_args-loop-arg
invariant-subst_args-loop-arg l = l.copies ≡ map (substituted_arg (value_in l.by) l.by.same.now) (take l.arg-index l.args)

abbrev pub invariant-subst_types-loop-ty : goal.invariant-subst_types-loop-ty
invariant-subst_types-loop-ty l = l.copies ≡ map (substituted (value_in l.by) l.by.same.now) (take l.ty-index l.types)
