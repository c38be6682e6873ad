use Rattle.std.proofs.Common.{length, ◌-◌}
use Rattle.sa_parser_expr.proofs.grammar.Grammar.+power.Given as goal

abbrev pub decreases-power : goal.decreases-power
decreases-power g l = length l.self.now.tokens.list.now - l.from
