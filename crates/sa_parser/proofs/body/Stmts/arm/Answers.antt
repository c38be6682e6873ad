use Rattle.std.proofs.Common.{arith, rules}
use Rattle.sa_parser_expr.specs.Expressions as exprs
use Rattle.sa_parser.proofs.SpelledStatements.{arm}
use Rattle.sa_lexer.specs.declared.word.Word.TheVariants as word
use Rattle.sa_parser_expr.specs.StatementForms.{value_form, body_form}
use Rattle.sa_parser_expr.proofs.Runs.{handed_on, stops}
use Rattle.sa_parser.proofs.ExactBlocks as exact
use Rattle.sa_parser.proofs.body.Stmts.arm.Goals as goal

pub returns-clause-spelled : goal.returns-clause-spelled
returns-clause-spelled g c =
    let test = c.in_ok-test in
    let body = c.in_ok-body.ensures in
    arm c.args.self.now.tokens c.args.from test.next _ _ _ (exprs.in_value test.ensures.spelled) body.spelled (omega (arith, test.ensures.next.0)) (omega (arith, body.next.0))

pub returns-in_err-test-clause-exact : goal.returns-in_err-test-clause-exact
returns-in_err-test-clause-exact g c =
    let t = c.args.self.now.tokens in
    handed_on t value_form c.args.from _ (search rules) c.in_err-test.ensures.exact (λ rest r. exact.no_test t c.args.from r)

pub returns-in_err-body-clause-exact : goal.returns-in_err-body-clause-exact
returns-in_err-body-clause-exact g c =
    let t = c.args.self.now.tokens in
    let test = c.in_ok-test in
    handed_on t (body_form word.Then) test.next _ (search rules) c.in_err-body.ensures.exact
    (λ rest r. exact.behind_test t c.args.from test.next _ test.ensures.exact (stops t r))

pub returns-clause-exact : goal.returns-clause-exact
returns-clause-exact g c =
    let t = c.args.self.now.tokens in
    let test = c.in_ok-test in
    exact.arm t c.args.from test.next _ _ _ test.ensures.exact c.in_ok-body.ensures.exact
