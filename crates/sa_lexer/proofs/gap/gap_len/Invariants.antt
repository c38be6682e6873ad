use Rattle.std.proofs.Common.{◌≡◌, ◌+◌, false, drop}
use Rattle.sa_lexer.specs.Gap.{gap_len}
use Rattle.sa_lexer.proofs.gap.gap_len.Given as goal

abbrev pub invariant-loop-i : goal.invariant-loop-i
invariant-loop-i l = gap_len false l.bytes ≡ l.i + gap_len l.in_comment (drop l.i l.bytes)
