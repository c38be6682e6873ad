use Rattle.sa_read.specs.Front.{IsParsedUpTo}
use Rattle.sa_read.proofs.front.parse_all.Given as goal

abbrev pub invariant-loop-number : goal.invariant-loop-number
invariant-loop-number l = IsParsedUpTo l.texts l.number l.parsed
