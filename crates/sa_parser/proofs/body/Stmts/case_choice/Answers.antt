use Rattle.std.proofs.Common.{arith, rules}
use Rattle.sa_parser.proofs.SpelledStatements.{case_choice}
use Rattle.sa_parser_expr.specs.StatementForms.{case_arms_form, ending_form}
use Rattle.sa_parser_expr.proofs.Runs.{handed_on, stops}
use Rattle.sa_parser.proofs.ExactBlocks as exact
use Rattle.sa_parser.proofs.body.Stmts.case_choice.Goals as goal

pub returns-clause-spelled : goal.returns-clause-spelled
returns-clause-spelled g c =
    let arms = c.in_ok-arms in
    let ending = c.in_ok-rest.ensures in
    case_choice c.args.self.now.tokens c.args.from arms.next _ _ _ arms.ensures.spelled ending.spelled arms.ensures.next.0 (omega (arith, ending.next.0))

pub returns-in_err-arms-clause-exact : goal.returns-in_err-arms-clause-exact
returns-in_err-arms-clause-exact g c =
    let t = c.args.self.now.tokens in
    handed_on t case_arms_form c.args.from _ (search rules) c.in_err-arms.ensures.exact (λ rest r. exact.no_case_arms t c.args.from r)

pub returns-in_err-rest-clause-exact : goal.returns-in_err-rest-clause-exact
returns-in_err-rest-clause-exact g c =
    let t = c.args.self.now.tokens in
    let arms = c.in_ok-arms in
    handed_on t ending_form arms.next _ (search rules) c.in_err-rest.ensures.exact
    (λ rest r. exact.behind_case_arms t c.args.from arms.next _ arms.ensures.exact (stops t r))

pub returns-clause-exact : goal.returns-clause-exact
returns-clause-exact g c =
    let t = c.args.self.now.tokens in
    let arms = c.in_ok-arms in
    exact.case_choice t c.args.from arms.next _ _ _ arms.ensures.exact c.in_ok-rest.ensures.exact
