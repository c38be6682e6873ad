use Rattle.std.proofs.Common.{◌≡◌, ◌++◌, flat_map, take}
use Rattle.sa_unify.specs.DeclaredEdges.{below_edge, seen}
use Rattle.sa_unify.proofs.written.add_all_below.Given as goal

abbrev pub invariant-loop-ty : goal.invariant-loop-ty
invariant-loop-ty l = seen l.out.items ≡ seen l.initial.out.items ++ flat_map (below_edge l.header) (take l.ty-index l.types)
