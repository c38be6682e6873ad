use Rattle.std.proofs.Common.{◌≡◌, ◌++◌, take}
use Rattle.std.specs.Prelude.{flat_map}
use Rattle.sa_unify.specs.Headers.{arg_nodes, ty_nodes}
use Rattle.sa_unify.proofs.header.Header.+spell.Given as goal

abbrev pub invariant-spell_args-loop-arg : goal.invariant-spell_args-loop-arg
invariant-spell_args-loop-arg l = l.out.items ≡ l.initial.out.items ++ flat_map (arg_nodes l.self) (take l.arg-index l.args)

abbrev pub invariant-spell_types-loop-ty : goal.invariant-spell_types-loop-ty
invariant-spell_types-loop-ty l = l.out.items ≡ l.initial.out.items ++ flat_map (ty_nodes l.self) (take l.ty-index l.types)
