use Rattle.std.proofs.Common.{◌≡◌, ◌≢◌, ◌+◌, Some, arith, rules}
use Rattle.sa_lexer.specs.declared.token.TokenKind.TheVariants as token
use Rattle.sa_lexer.specs.declared.sign.Sign.TheVariants as sign
use Rattle.sa_parser_expr.specs.Enclosures.{where_of}
use Rattle.sa_parser_expr.specs.ExpressionForms.{post_form, power_form}
use Rattle.sa_parser_expr.specs.Expressions as exprs
use Rattle.sa_parser_expr.specs.Positions.{kind_at}
use Rattle.sa_parser_expr.proofs.ExactOperations as exact
use Rattle.sa_parser_expr.proofs.Runs.{handed_on, stops}
use Rattle.sa_parser_expr.proofs.SpelledExpressions.{raised}
use Rattle.sa_parser_expr.proofs.grammar.Grammar.+power.Goals as goal

pub returns-then-not-is_sign-clause-spelled : goal.returns-then-not-is_sign-clause-spelled
returns-then-not-is_sign-clause-spelled g t c = exprs.post c.in_ok-base.ensures.spelled

pub returns-clause-spelled : goal.returns-clause-spelled
returns-clause-spelled g t c =
    let base = c.in_ok-base in
    let caret : kind_at c.args.self.now.tokens.list.now base.next ≡ Some (token.Sign sign.Caret) = search rules in
    let exponent = c.in_ok-exponent.ensures in
    raised c.args.self.now.tokens c.args.self.now.scope c.args.around c.args.from base.next _ _ _ _ base.ensures.spelled caret exponent.spelled (omega (arith, base.ensures.next.0)) (omega (arith, exponent.next.0)) (first_of (cc, search rules, grind arith))

pub returns-in_err-base-clause-exact : goal.returns-in_err-base-clause-exact
returns-in_err-base-clause-exact g t c =
    let scope = c.args.self.now.scope in
    handed_on c.args.self.now.tokens (post_form scope (where_of c.args.around)) c.args.from _ (search rules) c.in_err-base.ensures.exact
    (λ rest r. exact.no_base c.args.self.now.tokens scope (where_of c.args.around) r)

pub returns-then-not-is_sign-clause-exact : goal.returns-then-not-is_sign-clause-exact
returns-then-not-is_sign-clause-exact g t c =
    let other : kind_at c.args.self.now.tokens.list.now c.in_ok-base.next ≢ Some (token.Sign sign.Caret) = search rules in
    exact.not_raised c.args.self.now.tokens c.args.self.now.scope (where_of c.args.around) c.args.from c.in_ok-base.next _
    c.in_ok-base.ensures.exact other

pub returns-in_err-exponent-clause-exact : goal.returns-in_err-exponent-clause-exact
returns-in_err-exponent-clause-exact g t c =
    let scope = c.args.self.now.scope in
    let base = c.in_ok-base in
    let caret : kind_at c.args.self.now.tokens.list.now base.next ≡ Some (token.Sign sign.Caret) = search rules in
    handed_on c.args.self.now.tokens (power_form scope (where_of c.args.around)) (base.next + 1) _ (search rules)
    c.in_err-exponent.ensures.exact
    (λ rest r. exact.behind_caret c.args.self.now.tokens scope (where_of c.args.around) c.args.from base.next _ base.ensures.exact caret
    (stops c.args.self.now.tokens (exact.nested_power c.args.self.now.tokens scope (where_of c.args.around) r)))

pub returns-clause-exact : goal.returns-clause-exact
returns-clause-exact g t c =
    let base = c.in_ok-base in
    let caret : kind_at c.args.self.now.tokens.list.now base.next ≡ Some (token.Sign sign.Caret) = search rules in
    exact.raised c.args.self.now.tokens c.args.self.now.scope (where_of c.args.around) c.args.from base.next _ _ _ _
    base.ensures.exact caret c.in_ok-exponent.ensures.exact (first_of (cc, search rules, grind arith))
