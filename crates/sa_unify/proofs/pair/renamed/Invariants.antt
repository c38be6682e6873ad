use Rattle.std.proofs.Common.{◌≡◌, take}
use Rattle.sa_unify.specs.Terms.{named, substitute}
use Rattle.sa_unify.proofs.pair.renamed.Given as goal

abbrev pub invariant-loop-node : goal.invariant-loop-node
invariant-loop-node l = l.out.items ≡ substitute (named l.numbers) (take l.node-index l.nodes)
