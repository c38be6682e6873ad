use Rattle.std.proofs.Common.{◌≡◌, Some, arith, rules, ◌≢◌, ◌+◌}
use Rattle.sa_lexer.specs.declared.token.TokenKind.TheVariants as token
use Rattle.sa_lexer.specs.declared.sign.Sign.TheVariants as sign
use Rattle.sa_parser_expr.specs.Expressions as exprs
use Rattle.sa_parser_expr.specs.Positions.{kind_at}
use Rattle.sa_parser.specs.Statements as stmts
use Rattle.sa_parser.proofs.SpelledStatements.{assign}
use Rattle.sa_parser_expr.specs.StatementForms.{value_form}
use Rattle.sa_parser_expr.proofs.Runs.{taken, takes, handed_on, follows, stops}
use Rattle.sa_parser.proofs.ExactStatements as exact
use Rattle.sa_parser.proofs.statement.assign.Goals as goal

pub returns-then-not-is_sign-clause-spelled : goal.returns-then-not-is_sign-clause-spelled
returns-then-not-is_sign-clause-spelled c = stmts.alone (exprs.in_value c.in_ok-target.ensures.spelled)

pub returns-clause-spelled : goal.returns-clause-spelled
returns-clause-spelled c =
    let target = c.in_ok-target in
    let gets : kind_at c.args.tokens.now.list.now target.next ≡ Some (token.Sign sign.Assign) = search rules in
    let value = c.in_ok-value.ensures in
    assign c.args.tokens.now c.args.from target.next _ _ _ _ (exprs.in_value target.ensures.spelled) gets (exprs.in_value value.spelled) (omega (arith, target.ensures.next.0)) (omega (arith, value.next.0)) (search rules)

pub returns-in_err-target-clause-exact : goal.returns-in_err-target-clause-exact
returns-in_err-target-clause-exact c =
    let t = c.args.tokens.now in
    handed_on t value_form c.args.from _ (search rules) c.in_err-target.ensures.exact (λ rest r. stops t r)

pub returns-then-not-is_sign-clause-exact : goal.returns-then-not-is_sign-clause-exact
returns-then-not-is_sign-clause-exact c =
    let t = c.args.tokens.now in
    let target = c.in_ok-target in
    let other : kind_at t.list.now target.next ≢ Some (token.Sign sign.Assign) = search rules in
    takes t (follows t (taken t target.ensures.exact) (exact.alone t target.next _ other))

pub returns-in_err-value-clause-exact : goal.returns-in_err-value-clause-exact
returns-in_err-value-clause-exact c =
    let t = c.args.tokens.now in
    let target = c.in_ok-target in
    let gets : kind_at t.list.now target.next ≡ Some (token.Sign sign.Assign) = search rules in
    handed_on t value_form (target.next + 1) _ (search rules) c.in_err-value.ensures.exact
    (λ rest r. follows t (taken t target.ensures.exact) (exact.behind_target t target.next _ gets (stops t r)))

pub returns-clause-exact : goal.returns-clause-exact
returns-clause-exact c =
    let t = c.args.tokens.now in
    let target = c.in_ok-target in
    let gets : kind_at t.list.now target.next ≡ Some (token.Sign sign.Assign) = search rules in
    let value = c.in_ok-value in
    exact.assigned t c.args.from target.next _ _ _ _ target.ensures.exact gets value.ensures.exact (search rules)
