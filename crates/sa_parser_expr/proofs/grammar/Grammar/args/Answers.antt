use Rattle.std.proofs.Common.{◌≡◌, ◌≢◌, ◌+◌, Some, arith, rules}
use Rattle.sa_lexer.specs.declared.token.TokenKind.TheVariants as token
use Rattle.sa_lexer.specs.declared.sign.Sign.TheVariants as sign
use Rattle.sa_parser_expr.specs.ExpressionForms.{arg_form}
use Rattle.sa_parser_expr.specs.Forms.{list}
use Rattle.sa_parser_expr.specs.Positions.{kind_at}
use Rattle.sa_parser_expr.proofs.ExactArguments as exact
use Rattle.sa_parser_expr.proofs.Runs.{taken, takes, handed_on, refused_at, stops, closed, unclosed}
use Rattle.sa_parser_expr.proofs.SpelledExpressions.{no_args, args}
use Rattle.sa_parser_expr.proofs.grammar.Grammar.args.Goals as goal

pub returns-then-not-is_sign-clause-spelled : goal.returns-then-not-is_sign-clause-spelled
returns-then-not-is_sign-clause-spelled g c = no_args c.args.self.now.tokens c.args.self.now.scope c.args.from _ (search rules)

pub returns-clause-spelled : goal.returns-clause-spelled
returns-clause-spelled g c =
    let opens : kind_at c.args.self.now.tokens.list.now c.args.from ≡ Some (token.Sign sign.LeftParen) = search rules in
    let given = c.in_ok-given in
    let closes = c.in_ok-after_sign.ensures in
    args c.args.self.now.tokens c.args.self.now.scope c.args.from given.next _ _ opens closes.sign given.ensures.spelled (omega (arith, given.ensures.next.0)) closes.next.0

pub returns-then-not-is_sign-clause-exact : goal.returns-then-not-is_sign-clause-exact
returns-then-not-is_sign-clause-exact g c =
    let t = c.args.self.now.tokens in
    let other : kind_at t.list.now c.args.from ≢ Some (token.Sign sign.LeftParen) = search rules in
    exact.no_args t c.args.self.now.scope c.args.from _ other (search rules)

pub returns-in_err-given-clause-exact : goal.returns-in_err-given-clause-exact
returns-in_err-given-clause-exact g c =
    let t = c.args.self.now.tokens in
    let s = c.args.self.now.scope in
    let opens : kind_at t.list.now c.args.from ≡ Some (token.Sign sign.LeftParen) = search rules in
    handed_on t (list (arg_form s)) (c.args.from + 1) _ (search rules) c.in_err-given.ensures.exact
    (λ rest r. exact.behind_paren t s c.args.from opens (stops t r))

pub returns-in_err-after_sign-clause-exact : goal.returns-in_err-after_sign-clause-exact
returns-in_err-after_sign-clause-exact g c =
    let t = c.args.self.now.tokens in
    let opens : kind_at t.list.now c.args.from ≡ Some (token.Sign sign.LeftParen) = search rules in
    let given = c.in_ok-given in
    let other = c.in_err-after_sign.ensures in
    refused_at t given.next _ (search rules) other.fault
    (exact.behind_paren t c.args.self.now.scope c.args.from opens (unclosed t given.next (taken t given.ensures.exact) other.another))

pub returns-clause-exact : goal.returns-clause-exact
returns-clause-exact g c =
    let t = c.args.self.now.tokens in
    let opens : kind_at t.list.now c.args.from ≡ Some (token.Sign sign.LeftParen) = search rules in
    let given = c.in_ok-given in
    let closes = c.in_ok-after_sign.ensures in
    rw closes.next.0
    (takes t (exact.behind_paren t c.args.self.now.scope c.args.from opens (closed t given.next (taken t given.ensures.exact) closes.sign)))
