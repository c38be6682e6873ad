use Rattle.std.proofs.Common.{◌≡◌, ◌≢◌, ◌+◌, Some, rules}
use Rattle.sa_lexer.specs.declared.token.TokenKind.TheVariants as token
use Rattle.sa_lexer.specs.declared.sign.Sign.TheVariants as sign
use Rattle.sa_parser_expr.specs.Forms.{list}
use Rattle.sa_parser_expr.specs.Positions.{kind_at}
use Rattle.sa_parser_expr.proofs.Runs.{taken, takes, handed_on, refused_at, stops, closed, unclosed}
use Rattle.sa_parser.specs.ClassForms.{param_form}
use Rattle.sa_parser.proofs.ExactHeads as exact
use Rattle.sa_parser.proofs.class.params.Goals as goal

pub returns-then-not-is_sign-clause-exact : goal.returns-then-not-is_sign-clause-exact
returns-then-not-is_sign-clause-exact c =
    let t = c.args.tokens.now in
    let other : kind_at t.list.now c.args.from ≢ Some (token.Sign sign.LeftBrace) = search rules in
    exact.no_params t c.args.from _ other (search rules)

pub returns-in_err-params-clause-exact : goal.returns-in_err-params-clause-exact
returns-in_err-params-clause-exact c =
    let t = c.args.tokens.now in
    let opens : kind_at t.list.now c.args.from ≡ Some (token.Sign sign.LeftBrace) = search rules in
    handed_on t (list param_form) (c.args.from + 1) _ (search rules) c.in_err-params.ensures.exact
    (λ rest r. exact.behind_brace t c.args.from opens (stops t r))

pub returns-in_err-after_sign-clause-exact : goal.returns-in_err-after_sign-clause-exact
returns-in_err-after_sign-clause-exact c =
    let t = c.args.tokens.now in
    let opens : kind_at t.list.now c.args.from ≡ Some (token.Sign sign.LeftBrace) = search rules in
    let params = c.in_ok-params in
    let other = c.in_err-after_sign.ensures in
    refused_at t params.next _ (search rules) other.fault
    (exact.behind_brace t c.args.from opens (unclosed t params.next (taken t params.ensures.exact) other.another))

pub returns-clause-exact : goal.returns-clause-exact
returns-clause-exact c =
    let t = c.args.tokens.now in
    let opens : kind_at t.list.now c.args.from ≡ Some (token.Sign sign.LeftBrace) = search rules in
    let params = c.in_ok-params in
    let closes = c.in_ok-after_sign.ensures in
    rw closes.next.0 (takes t (exact.behind_brace t c.args.from opens (closed t params.next (taken t params.ensures.exact) closes.sign)))
