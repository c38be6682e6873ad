use Rattle.std.proofs.Common.{◌-◌, length}
use Rattle.sa_lexer.proofs.Items.{ReadSoFar}
use Rattle.sa_lexer.proofs.literal.text_of.Given as goal

abbrev pub invariant-loop-at : goal.invariant-loop-at
invariant-loop-at l = ReadSoFar l.inside l.text.items l.at

abbrev pub decreases-loop-at : goal.decreases-loop-at
decreases-loop-at l = length l.inside - l.at
