use Rattle.std.proofs.Common.{◌≡◌, ◌++◌, take}
use Rattle.sa_unify.proofs.unification.add_all.Given as goal

abbrev pub invariant-loop-node : goal.invariant-loop-node
invariant-loop-node l = l.out.items ≡ l.initial.out.items ++ take l.node-index l.nodes
