use Rattle.sa_include.specs.Resolved.{AreDone}
use Rattle.sa_include.proofs.flattening.accepted_up_to.Given as goal

abbrev pub invariant-loop-number : goal.invariant-loop-number
invariant-loop-number l = AreDone l.resolved l.from l.number
