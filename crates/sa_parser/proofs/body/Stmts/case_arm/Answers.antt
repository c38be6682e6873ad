use Rattle.std.proofs.Common.{arith, rules}
use Rattle.sa_parser.proofs.SpelledStatements.{case_arm}
use Rattle.sa_lexer.specs.declared.word.Word.TheVariants as word
use Rattle.sa_parser_expr.specs.Forms.{list}
use Rattle.sa_parser_expr.specs.StatementForms.{value_form, body_form}
use Rattle.sa_parser_expr.proofs.Runs.{handed_on, stops}
use Rattle.sa_parser.proofs.ExactBlocks as exact
use Rattle.sa_parser.proofs.body.Stmts.case_arm.Goals as goal

pub returns-clause-spelled : goal.returns-clause-spelled
returns-clause-spelled g c =
    let values = c.in_ok-values in
    let body = c.in_ok-body.ensures in
    case_arm c.args.self.now.tokens c.args.from values.next _ _ _ values.ensures.spelled body.spelled (omega (arith, values.ensures.next.0)) (omega (arith, body.next.0))

pub returns-in_err-values-clause-exact : goal.returns-in_err-values-clause-exact
returns-in_err-values-clause-exact g c =
    let t = c.args.self.now.tokens in
    handed_on t (list value_form) c.args.from _ (search rules) c.in_err-values.ensures.exact (λ rest r. exact.no_values t c.args.from r)

pub returns-in_err-body-clause-exact : goal.returns-in_err-body-clause-exact
returns-in_err-body-clause-exact g c =
    let t = c.args.self.now.tokens in
    let values = c.in_ok-values in
    handed_on t (body_form word.Then) values.next _ (search rules) c.in_err-body.ensures.exact
    (λ rest r. exact.behind_values t c.args.from values.next _ values.ensures.exact (stops t r))

pub returns-clause-exact : goal.returns-clause-exact
returns-clause-exact g c =
    let t = c.args.self.now.tokens in
    let values = c.in_ok-values in
    exact.case_arm t c.args.from values.next _ _ _ values.ensures.exact c.in_ok-body.ensures.exact
