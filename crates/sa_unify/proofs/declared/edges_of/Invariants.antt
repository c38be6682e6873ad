use Rattle.std.proofs.Common.{◌≡◌, map, take}
use Rattle.sa_unify.specs.DeclaredEdges.{ends_of, ends_written}
use Rattle.sa_unify.proofs.declared.edges_of.Given as goal

abbrev pub invariant-loop-own : goal.invariant-loop-own
invariant-loop-own l = map ends_of l.edges.items ≡ map ends_written (take l.own-index l.written)
