use Rattle.std.proofs.Common.{arith, rules}
use Rattle.sa_parser_expr.specs.Forms.{nest, type}
use Rattle.sa_parser_expr.proofs.Runs.{handed_on, stops}
use Rattle.sa_parser.specs.FeatureForms.{is_private, optional_changes_form}
use Rattle.sa_parser.proofs.ExactIncludes as exact
use Rattle.sa_parser.proofs.include.include.Goals as goal

pub returns-in_err-ty-clause-exact : goal.returns-in_err-ty-clause-exact
returns-in_err-ty-clause-exact c =
    let t = c.args.tokens.now in
    handed_on t (nest type) c.args.from _ (search rules) c.in_err-ty.ensures.exact
    (λ rest r. exact.no_type t (is_private c.args.access) c.args.from r)

pub returns-in_err-changes-clause-exact : goal.returns-in_err-changes-clause-exact
returns-in_err-changes-clause-exact c =
    let t = c.args.tokens.now in
    let class = c.in_ok-ty in
    handed_on t optional_changes_form class.next _ (search rules) c.in_err-changes.ensures.exact
    (λ rest r. exact.behind_type t (is_private c.args.access) c.args.from class.next _ class.ensures.exact (stops t r))

pub returns-clause-exact : goal.returns-clause-exact
returns-clause-exact c =
    let t = c.args.tokens.now in
    let class = c.in_ok-ty in
    let changes = c.in_ok-changes in
    let private = exact.private_is c.args.access in
    exact.include t (is_private c.args.access) c.args.from class.next changes.next _ _ _ class.ensures.exact changes.ensures.exact
    (first_of (search rules, cc, grind arith))
