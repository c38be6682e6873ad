use Rattle.sa_parser_expr.specs.declared.grammar.ConditionScope.TheVariants.{Plain}
use Rattle.sa_parser_expr.specs.Enclosures.{outside}
use Rattle.sa_parser_expr.specs.Forms.{expr, nest}
use Rattle.sa_parser_expr.specs.Lexemes.{between}
use Rattle.sa_parser_expr.proofs.Runs.{of_lexemes}
use Rattle.sa_parser_expr.proofs.expression.expr.Goals as goal

pub returns-clause-spelled : goal.returns-clause-spelled
unfolding between
returns-clause-spelled c = c.read_expr.ensures.spelled

pub returns-clause-exact : goal.returns-clause-exact
returns-clause-exact c = of_lexemes _ (nest (expr Plain outside)) c.args.from c.read_expr.result c.read_expr.ensures.exact
