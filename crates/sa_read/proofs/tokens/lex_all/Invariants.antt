use Rattle.sa_read.specs.Front.{AreTokensOfTexts}
use Rattle.sa_read.proofs.tokens.lex_all.Given as goal

abbrev pub invariant-loop-number : goal.invariant-loop-number
invariant-loop-number l = AreTokensOfTexts l.texts l.lists l.number
