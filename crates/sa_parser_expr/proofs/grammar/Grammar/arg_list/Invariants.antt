use Rattle.std.proofs.Common.{length, ◌-◌}
use Rattle.sa_parser_expr.specs.ExpressionForms.{arg_form}
use Rattle.sa_parser_expr.specs.Expressions.{IsArgList}
use Rattle.sa_parser_expr.specs.Lexemes.{between}
use Rattle.sa_parser_expr.specs.Positions.{IsAfter}
use Rattle.sa_parser_expr.proofs.Runs.{Lists}
use Rattle.sa_parser_expr.proofs.grammar.Grammar.arg_list.Given as goal

abbrev pub invariant-more : goal.invariant-more
invariant-more g l = record {
  following : IsAfter l.self.tokens.list.now l.from l.next;
  spelled : IsArgList l.self.scope (between l.self.tokens l.from l.next) l.args.items;
  listed : Lists l.self.tokens (arg_form l.self.scope) l.from l.args.items l.next;
}

abbrev pub decreases-more : goal.decreases-more
decreases-more g l = length l.self.tokens.list.now - l.next
