use Rattle.sa_parser_expr.specs.Enclosures.{where_of}
use Rattle.sa_parser_expr.proofs.ExactArguments.{nested_expr, nested_post}
use Rattle.sa_parser_expr.proofs.grammar.+read_form.Goals as goal

pub returns-in-Expr-clause-spelled : goal.returns-in-Expr-clause-spelled
returns-in-Expr-clause-spelled t c = rw c.in-Expr.is c.expr.ensures.spelled

pub returns-in-Post-clause-spelled : goal.returns-in-Post-clause-spelled
returns-in-Post-clause-spelled t c = rw c.in-Post.is c.post.ensures.spelled

pub returns-in-Expr-clause-exact : goal.returns-in-Expr-clause-exact
returns-in-Expr-clause-exact t c =
    rw c.in-Expr.is (nested_expr c.args.tokens.now c.args.scope (where_of c.in-Expr.around) c.args.from c.expr.result c.expr.ensures.exact)

pub returns-in-Post-clause-exact : goal.returns-in-Post-clause-exact
returns-in-Post-clause-exact t c = rw c.in-Post.is (nested_post c.args.tokens.now c.args.scope c.args.from c.post.result c.post.ensures.exact)
