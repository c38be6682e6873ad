use Rattle.std.proofs.Common.{arith, rules}
use Rattle.sa_parser_expr.specs.Expressions as exprs
use Rattle.sa_parser.proofs.SpelledStatements.{declare_by_value}
use Rattle.sa_parser_expr.specs.StatementForms.{name_form, value_form}
use Rattle.sa_parser_expr.proofs.Runs.{handed_on, refused_at, stops}
use Rattle.sa_parser.proofs.ExactStatements as exact
use Rattle.sa_parser.proofs.statement.declare_by_value.Goals as goal

pub returns-clause-spelled : goal.returns-clause-spelled
returns-clause-spelled c =
    let name = c.in_ok-name in
    let gets = c.in_ok-next.ensures in
    let value = c.in_ok-value.ensures in
    declare_by_value c.args.tokens.now c.args.from name.next _ _ _ _ name.ensures.spelled gets.sign (exprs.in_value (rw gets.next.0 at value.spelled)) (omega (arith, name.ensures.next.0)) (omega (arith, gets.next.0, value.next.0)) (rw (c.in_ok-push.ensures.ok, c.new-locals.ensures))

pub returns-in_err-name-clause-exact : goal.returns-in_err-name-clause-exact
returns-in_err-name-clause-exact c =
    let t = c.args.tokens.now in
    handed_on t name_form c.args.from _ (search rules) c.in_err-name.ensures.exact (λ rest r. exact.no_first t c.args.from r)

pub returns-in_err-next-clause-exact : goal.returns-in_err-next-clause-exact
returns-in_err-next-clause-exact c =
    let t = c.args.tokens.now in
    let name = c.in_ok-name in
    let other = c.in_err-next.ensures in
    refused_at t name.next _ (search rules) other.fault
    (exact.following_first t c.args.from name.next _ name.ensures.exact (exact.no_declare t name.next _ other.another))

pub returns-in_err-value-clause-exact : goal.returns-in_err-value-clause-exact
returns-in_err-value-clause-exact c =
    let t = c.args.tokens.now in
    let name = c.in_ok-name in
    let gets = c.in_ok-next.ensures in
    handed_on t value_form c.in_ok-next.next _ (search rules) c.in_err-value.ensures.exact
    (λ rest r. exact.following_first t c.args.from name.next _ name.ensures.exact (exact.behind_declare t name.next _ gets.sign (stops t (rw gets.next.0 at r))))

pub returns-clause-exact : goal.returns-clause-exact
returns-clause-exact c =
    let t = c.args.tokens.now in
    let name = c.in_ok-name in
    let gets = c.in_ok-next.ensures in
    let value = c.in_ok-value in
    exact.by_value t c.args.from name.next _ _ _ _ name.ensures.exact gets.sign (rw gets.next.0 at value.ensures.exact) (rw (c.in_ok-push.ensures.ok, c.new-locals.ensures))
