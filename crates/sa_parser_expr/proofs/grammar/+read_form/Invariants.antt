use Rattle.std.proofs.Common.{◌-◌}
use Rattle.sa_parser_expr.proofs.grammar.+read_form.Given as goal

-- the indices that are left, whether a token is there or not
abbrev pub decreases-read_form : goal.decreases-read_form
decreases-read_form l = 4294967296 - l.from
