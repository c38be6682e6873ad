use Rattle.sa_include.specs.Resolved.{IsGoneThrough}
use Rattle.sa_include.proofs.flattening.resolve.Given as goal

abbrev pub invariant-loop-number : goal.invariant-loop-number
invariant-loop-number l = IsGoneThrough l.program.classes.now l.resolved.items l.accepted
