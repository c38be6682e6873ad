use Rattle.sa_parser_expr.specs.Enclosures.{outside}
use Rattle.sa_parser_expr.specs.Forms.{expr, nest}
use Rattle.sa_parser_expr.specs.Lexemes.{between}
use Rattle.sa_parser_expr.proofs.Runs.{of_lexemes}
use Rattle.sa_parser_expr.proofs.expression.condition.Goals as goal

pub returns-clause-spelled : goal.returns-clause-spelled
unfolding between
returns-clause-spelled c = c.read_condition.ensures.spelled

pub returns-clause-exact : goal.returns-clause-exact
returns-clause-exact c = of_lexemes _ (nest (expr c.args.scope outside)) c.args.from c.read_condition.result c.read_condition.ensures.exact
