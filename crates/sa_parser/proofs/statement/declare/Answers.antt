use Rattle.std.proofs.Common.{arith, rules}
use Rattle.sa_parser.proofs.SpelledStatements.{declare}
use Rattle.sa_parser_expr.specs.Forms.{nest, type}
use Rattle.sa_parser_expr.specs.StatementForms.{names_form, assigned_form}
use Rattle.sa_parser_expr.proofs.Runs.{taken, handed_on, refused_at, follows, stops}
use Rattle.sa_parser.proofs.ExactStatements as exact
use Rattle.sa_parser.proofs.statement.declare.Goals as goal

pub returns-clause-spelled : goal.returns-clause-spelled
returns-clause-spelled c =
    let names = c.in_ok-names in
    let colon = c.in_ok-next.ensures in
    let class = c.in_ok-ty in
    let value = c.in_ok-value.ensures in
    declare c.args.tokens.now c.args.from names.next class.next _ _ _ _ _ names.ensures.spelled colon.sign (rw colon.next.0 at class.ensures.spelled) value.spelled (omega (arith, names.ensures.next.0)) (omega (arith, colon.next.0, class.ensures.next.0)) value.next.0 (search rules)

pub returns-in_err-names-clause-exact : goal.returns-in_err-names-clause-exact
returns-in_err-names-clause-exact c =
    let t = c.args.tokens.now in
    handed_on t names_form c.args.from _ (search rules) c.in_err-names.ensures.exact (λ rest r. exact.no_names t c.args.from r)

pub returns-in_err-next-clause-exact : goal.returns-in_err-next-clause-exact
returns-in_err-next-clause-exact c =
    let t = c.args.tokens.now in
    let names = c.in_ok-names in
    let other = c.in_err-next.ensures in
    refused_at t names.next _ (search rules) other.fault
    (exact.behind_names t c.args.from names.next _ names.ensures.exact (exact.no_colon t names.next _ other.another))

pub returns-in_err-ty-clause-exact : goal.returns-in_err-ty-clause-exact
returns-in_err-ty-clause-exact c =
    let t = c.args.tokens.now in
    let names = c.in_ok-names in
    let colon = c.in_ok-next.ensures in
    handed_on t (nest type) c.in_ok-next.next _ (search rules) c.in_err-ty.ensures.exact
    (λ rest r. exact.behind_names t c.args.from names.next _ names.ensures.exact (exact.behind_colon t names.next _ colon.sign (stops t (rw colon.next.0 at r))))

pub returns-in_err-value-clause-exact : goal.returns-in_err-value-clause-exact
returns-in_err-value-clause-exact c =
    let t = c.args.tokens.now in
    let names = c.in_ok-names in
    let colon = c.in_ok-next.ensures in
    let class = c.in_ok-ty in
    handed_on t assigned_form class.next _ (search rules) c.in_err-value.ensures.exact
    (λ rest r. exact.behind_names t c.args.from names.next _ names.ensures.exact
    (exact.behind_colon t names.next _ colon.sign (follows t (taken t (rw colon.next.0 at class.ensures.exact)) (stops t r))))

pub returns-clause-exact : goal.returns-clause-exact
returns-clause-exact c =
    let t = c.args.tokens.now in
    let names = c.in_ok-names in
    let colon = c.in_ok-next.ensures in
    let class = c.in_ok-ty in
    let value = c.in_ok-value in
    exact.declared t c.args.from names.next class.next _ _ _ _ _ names.ensures.exact colon.sign (rw colon.next.0 at class.ensures.exact) value.ensures.exact (search rules)
