use Rattle.std.proofs.Common.{◌≡◌, take}
use Rattle.sa_unify.specs.Terms.{only, substitute}
use Rattle.sa_unify.proofs.unification.substitute_one.Given as goal

abbrev pub invariant-loop-node : goal.invariant-loop-node
invariant-loop-node l = l.out.items ≡ substitute (only l.number l.term) (take l.node-index l.nodes)
