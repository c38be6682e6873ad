use Rattle.std.proofs.Common.{length, ◌-◌}
use Rattle.sa_parser_expr.specs.Enclosures.{where_of}
use Rattle.sa_parser_expr.specs.Expressions.{IsExprs}
use Rattle.sa_parser_expr.specs.Forms.{expr, nest}
use Rattle.sa_parser_expr.specs.Lexemes.{between}
use Rattle.sa_parser_expr.specs.Positions.{IsAfter}
use Rattle.sa_parser_expr.proofs.Runs.{Lists}
use Rattle.sa_parser_expr.proofs.grammar.Grammar.exprs.Given as goal

abbrev pub invariant-more : goal.invariant-more
invariant-more g l = record {
  following : IsAfter l.self.tokens.list.now l.from l.next;
  spelled : IsExprs l.self.scope l.around (between l.self.tokens l.from l.next) l.exprs.items;
  listed : Lists l.self.tokens (nest (expr l.self.scope (where_of l.around))) l.from l.exprs.items l.next;
}

abbrev pub decreases-more : goal.decreases-more
decreases-more g l = length l.self.tokens.list.now - l.next
