use Rattle.std.proofs.Common.{length, ◌-◌}
use Rattle.sa_parser_expr.specs.Expressions.{ContinuesTexts}
use Rattle.sa_parser_expr.specs.Lexemes.{between}
use Rattle.sa_parser_expr.specs.Positions.{IsFrom}
use Rattle.sa_parser_expr.specs.Tests.{is_text}
use Rattle.sa_parser_expr.proofs.ExactFirsts.{more_texts}
use Rattle.sa_parser_expr.proofs.Runs.{Turns}
use Rattle.sa_parser_expr.proofs.primary.texts.Given as goal

abbrev pub invariant-more : goal.invariant-more
invariant-more l = record {
  following : IsFrom l.tokens.list.now l.from l.next;
  spelled : ContinuesTexts l.first (between l.tokens l.from l.next) l.bytes.items;
  turned : Turns l.tokens is_text more_texts l.first l.from l.bytes.items l.next;
}

abbrev pub decreases-more : goal.decreases-more
decreases-more l = length l.tokens.list.now - l.next
