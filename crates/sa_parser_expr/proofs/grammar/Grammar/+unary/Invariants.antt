use Rattle.std.proofs.Common.{length, ◌-◌}
use Rattle.sa_parser_expr.proofs.grammar.Grammar.+unary.Given as goal

abbrev pub decreases-unary : goal.decreases-unary
decreases-unary g l = length l.self.now.tokens.list.now - l.from
