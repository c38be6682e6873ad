use Rattle.std.proofs.Common.{arith, rules}
use Rattle.sa_parser.proofs.SpelledStatements.{type_choice}
use Rattle.sa_parser_expr.specs.StatementForms.{branches_form, ending_form}
use Rattle.sa_parser_expr.proofs.Runs.{handed_on, stops}
use Rattle.sa_parser.proofs.ExactBlocks as exact
use Rattle.sa_parser.proofs.body.Stmts.type_choice.Goals as goal

pub returns-clause-spelled : goal.returns-clause-spelled
returns-clause-spelled g c =
    let branches = c.in_ok-branches in
    let ending = c.in_ok-rest.ensures in
    type_choice c.args.self.now.tokens c.args.from branches.next _ _ _ branches.ensures.spelled ending.spelled branches.ensures.next.0 (omega (arith, ending.next.0))

pub returns-in_err-branches-clause-exact : goal.returns-in_err-branches-clause-exact
returns-in_err-branches-clause-exact g c =
    let t = c.args.self.now.tokens in
    handed_on t branches_form c.args.from _ (search rules) c.in_err-branches.ensures.exact (λ rest r. exact.no_branches t c.args.from r)

pub returns-in_err-rest-clause-exact : goal.returns-in_err-rest-clause-exact
returns-in_err-rest-clause-exact g c =
    let t = c.args.self.now.tokens in
    let branches = c.in_ok-branches in
    handed_on t ending_form branches.next _ (search rules) c.in_err-rest.ensures.exact
    (λ rest r. exact.behind_branches t c.args.from branches.next _ branches.ensures.exact (stops t r))

pub returns-clause-exact : goal.returns-clause-exact
returns-clause-exact g c =
    let t = c.args.self.now.tokens in
    let branches = c.in_ok-branches in
    exact.type_choice t c.args.from branches.next _ _ _ branches.ensures.exact c.in_ok-rest.ensures.exact
