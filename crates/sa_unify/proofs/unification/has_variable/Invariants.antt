use Rattle.std.proofs.Common.{◌≡◌, drop}
use Rattle.sa_unify.specs.Terms.{comes}
use Rattle.sa_unify.proofs.unification.has_variable.Given as goal

abbrev pub invariant-loop-node : goal.invariant-loop-node
invariant-loop-node l = comes l.number l.nodes ≡ comes l.number (drop l.node-index l.nodes)
