use Rattle.std.proofs.Common.{length, ◌+◌, ◌-◌, ◌≤◌, vec_len}
use Rattle.sa_parser_expr.specs.Lexemes.{between}
use Rattle.sa_parser_expr.specs.Positions.{IsAfter}
use Rattle.sa_parser.specs.Names.{IsNames}
use Rattle.sa_parser_expr.specs.StatementForms.{name_form}
use Rattle.sa_parser_expr.proofs.Runs.{Lists}
use Rattle.sa_parser.proofs.names.lower_names.Given as goal

abbrev pub invariant-more : goal.invariant-more
invariant-more l = record {
  following : IsAfter l.tokens.list.now l.from l.next;
  count : l.from + vec_len l.names ≤ l.next;
  spelled : IsNames (between l.tokens l.from l.next) l.names.items;
  listed : Lists l.tokens name_form l.from l.names.items l.next;
}

abbrev pub decreases-more : goal.decreases-more
decreases-more l = length l.tokens.list.now - l.next
