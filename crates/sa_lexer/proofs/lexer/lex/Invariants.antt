use Rattle.std.proofs.Common.{◌≡◌, ◌≤◌, ◌-◌, length}
use Rattle.sa_lexer.specs.Gap.{mark_len}
use Rattle.sa_lexer.specs.Tokens.{gap_end, end_of, Follow}
use Rattle.sa_lexer.proofs.lexer.lex.Given as goal

abbrev pub invariant-loop-place : goal.invariant-loop-place
invariant-loop-place l = record {
  follow : Follow l.src (mark_len l.src) l.tokens.items;
  following : l.place ≡ gap_end l.src (end_of (mark_len l.src) l.tokens.items);
  in_text : l.place ≤ length l.src;
}

abbrev pub decreases-loop-place : goal.decreases-loop-place
decreases-loop-place l = length l.src - l.place
