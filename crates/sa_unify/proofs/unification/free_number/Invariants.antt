use Rattle.std.proofs.Common.{◌≡◌, take}
use Rattle.sa_unify.specs.Terms.{free}
use Rattle.sa_unify.proofs.unification.free_number.Given as goal

abbrev pub invariant-loop-node : goal.invariant-loop-node
invariant-loop-node l = l.number ≡ free (take l.node-index l.nodes)
