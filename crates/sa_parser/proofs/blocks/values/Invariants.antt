use Rattle.std.proofs.Common.{length, ◌-◌}
use Rattle.sa_parser_expr.specs.Lexemes.{between}
use Rattle.sa_parser_expr.specs.Positions.{IsAfter}
use Rattle.sa_parser.specs.Statements.{IsValues}
use Rattle.sa_parser_expr.specs.StatementForms.{value_form}
use Rattle.sa_parser_expr.proofs.Runs.{Lists}
use Rattle.sa_parser.proofs.blocks.values.Given as goal

abbrev pub invariant-more : goal.invariant-more
invariant-more l = record {
  following : IsAfter l.tokens.list.now l.from l.next;
  spelled : IsValues (between l.tokens l.from l.next) l.values;
  listed : Lists l.tokens value_form l.from l.values l.next;
}

abbrev pub decreases-more : goal.decreases-more
decreases-more l = length l.tokens.list.now - l.next
