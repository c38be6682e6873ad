use Rattle.std.proofs.Common.{◌≡◌, Some, arith, rules, ◌≢◌, ◌+◌}
use Rattle.sa_lexer.specs.declared.token.TokenKind.TheVariants as token
use Rattle.sa_lexer.specs.declared.sign.Sign.TheVariants as sign
use Rattle.sa_parser_expr.specs.Expressions as exprs
use Rattle.sa_parser_expr.specs.Positions.{kind_at}
use Rattle.sa_parser.proofs.SpelledStatements.{not_assigned, assigned}
use Rattle.sa_parser_expr.specs.StatementForms.{value_form}
use Rattle.sa_parser_expr.proofs.Runs.{taken, takes, handed_on, stops, makes}
use Rattle.sa_parser.proofs.ExactStatements as exact
use Rattle.sa_parser.proofs.statement.assigned.Goals as goal

pub returns-then-not-is_sign-clause-spelled : goal.returns-then-not-is_sign-clause-spelled
returns-then-not-is_sign-clause-spelled c = not_assigned c.args.tokens.now c.args.from

pub returns-clause-spelled : goal.returns-clause-spelled
returns-clause-spelled c =
    let gets : kind_at c.args.tokens.now.list.now c.args.from ≡ Some (token.Sign sign.Assign) = search rules in
    let value = c.in_ok-value.ensures in
    assigned c.args.tokens.now c.args.from _ _ gets (exprs.in_value value.spelled) (omega (arith, value.next.0))

pub returns-then-not-is_sign-clause-exact : goal.returns-then-not-is_sign-clause-exact
returns-then-not-is_sign-clause-exact c =
    let t = c.args.tokens.now in
    let other : kind_at t.list.now c.args.from ≢ Some (token.Sign sign.Assign) = search rules in
    exact.no_value t c.args.from other

pub returns-in_err-value-clause-exact : goal.returns-in_err-value-clause-exact
returns-in_err-value-clause-exact c =
    let t = c.args.tokens.now in
    let gets : kind_at t.list.now c.args.from ≡ Some (token.Sign sign.Assign) = search rules in
    handed_on t value_form (c.args.from + 1) _ (search rules) c.in_err-value.ensures.exact (λ rest r. exact.behind_gets t c.args.from gets (stops t r))

pub returns-clause-exact : goal.returns-clause-exact
returns-clause-exact c =
    let t = c.args.tokens.now in
    let gets : kind_at t.list.now c.args.from ≡ Some (token.Sign sign.Assign) = search rules in
    let value = c.in_ok-value in
    takes t (exact.behind_gets t c.args.from gets (makes t value.next (taken t value.ensures.exact)))
