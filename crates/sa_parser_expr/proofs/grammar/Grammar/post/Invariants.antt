use Rattle.std.proofs.Common.{length, ◌-◌}
use Rattle.sa_parser_expr.specs.Enclosures.{where_of}
use Rattle.sa_parser_expr.specs.Expressions.{IsPost}
use Rattle.sa_parser_expr.specs.Lexemes.{between}
use Rattle.sa_parser_expr.specs.Positions.{IsAfter}
use Rattle.sa_parser_expr.proofs.ExactArguments.{Posts}
use Rattle.sa_parser_expr.proofs.grammar.Grammar.post.Given as goal

abbrev pub invariant-more : goal.invariant-more
invariant-more g l = record {
  following : IsAfter l.self.tokens.list.now l.from l.next;
  spelled : IsPost l.self.scope l.fn.around (between l.self.tokens l.from l.next) l.of;
  read : Posts l.self.tokens l.self.scope (where_of l.fn.around) l.from l.of l.next;
}

abbrev pub decreases-more : goal.decreases-more
decreases-more g l = length l.self.tokens.list.now - l.next
