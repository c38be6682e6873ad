use Rattle.sa_read.specs.Front.{IsReadUpTo}
use Rattle.sa_read.proofs.tokens.scan_all.Given as goal

abbrev pub invariant-loop-number : goal.invariant-loop-number
invariant-loop-number l = IsReadUpTo l.texts l.number
