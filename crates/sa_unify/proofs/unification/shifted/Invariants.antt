use Rattle.std.proofs.Common.{◌≡◌, take}
use Rattle.sa_unify.specs.Terms.{later, substitute}
use Rattle.sa_unify.proofs.unification.shifted.Given as goal

abbrev pub invariant-loop-node : goal.invariant-loop-node
invariant-loop-node l = l.out.items ≡ substitute (later l.more) (take l.node-index l.nodes)
