use Rattle.std.proofs.Common.{◌≡◌, ◌≢◌, ◌+◌, Some, rules}
use Rattle.sa_lexer.specs.declared.token.TokenKind.TheVariants as token
use Rattle.sa_lexer.specs.declared.sign.Sign.TheVariants as sign
use Rattle.sa_parser_expr.specs.Positions.{kind_at}
use Rattle.sa_parser.specs.SignatureForms.{formals_form}
use Rattle.sa_parser_expr.proofs.Runs.{taken, takes, handed_on, refused_at, stops, closed, unclosed}
use Rattle.sa_parser.proofs.ExactSignatures as exact
use Rattle.sa_parser.proofs.signature.arguments.Goals as goal

pub returns-then-not-is_sign-clause-exact : goal.returns-then-not-is_sign-clause-exact
returns-then-not-is_sign-clause-exact c =
    let t = c.args.tokens.now in
    let other : kind_at t.list.now c.args.from ≢ Some (token.Sign sign.LeftParen) = search rules in
    exact.no_arguments t c.args.callable c.args.from _ other (search rules)

pub returns-in_err-formals-clause-exact : goal.returns-in_err-formals-clause-exact
returns-in_err-formals-clause-exact c =
    let t = c.args.tokens.now in
    let opens : kind_at t.list.now c.args.from ≡ Some (token.Sign sign.LeftParen) = search rules in
    handed_on t (formals_form c.args.callable) (c.args.from + 1) _ (search rules) c.in_err-formals.ensures.exact
    (λ rest r. exact.behind_paren t c.args.callable c.args.from opens (stops t r))

pub returns-in_err-after_sign-clause-exact : goal.returns-in_err-after_sign-clause-exact
returns-in_err-after_sign-clause-exact c =
    let t = c.args.tokens.now in
    let opens : kind_at t.list.now c.args.from ≡ Some (token.Sign sign.LeftParen) = search rules in
    let formals = c.in_ok-formals in
    let other = c.in_err-after_sign.ensures in
    refused_at t formals.next _ (search rules) other.fault
    (exact.behind_paren t c.args.callable c.args.from opens (unclosed t formals.next (taken t formals.ensures.exact) other.another))

pub returns-clause-exact : goal.returns-clause-exact
returns-clause-exact c =
    let t = c.args.tokens.now in
    let opens : kind_at t.list.now c.args.from ≡ Some (token.Sign sign.LeftParen) = search rules in
    let formals = c.in_ok-formals in
    let closes = c.in_ok-after_sign.ensures in
    rw closes.next.0 (takes t (exact.behind_paren t c.args.callable c.args.from opens
    (closed t formals.next (taken t formals.ensures.exact) closes.sign)))
