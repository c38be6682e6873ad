use Rattle.std.proofs.Common.{length, ◌-◌}
use Rattle.sa_parser_expr.specs.Lexemes.{between}
use Rattle.sa_parser_expr.specs.Positions.{IsAfter}
use Rattle.sa_parser.specs.Statements.{IsArms}
use Rattle.sa_lexer.specs.declared.word.Word.TheVariants as word
use Rattle.sa_parser_expr.specs.StatementForms.{arm_form}
use Rattle.sa_parser_expr.specs.Tests.{is_word}
use Rattle.sa_parser_expr.proofs.Runs.{Parts}
use Rattle.sa_parser.proofs.body.Stmts.arms.Given as goal

abbrev pub invariant-more : goal.invariant-more
invariant-more g l = record {
  following : IsAfter l.self.tokens.list.now l.from l.next;
  spelled : IsArms (between l.self.tokens l.from l.next) l.arms.items;
  parted : Parts l.self.tokens (is_word word.Elsif) arm_form l.from l.arms.items l.next;
}

abbrev pub decreases-more : goal.decreases-more
decreases-more g l = length l.self.tokens.list.now - l.next
