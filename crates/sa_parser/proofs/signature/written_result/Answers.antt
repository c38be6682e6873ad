use Rattle.std.proofs.Common.{◌≡◌, ◌≢◌, ◌+◌, Some, rules}
use Rattle.sa_lexer.specs.declared.token.TokenKind.TheVariants as token
use Rattle.sa_lexer.specs.declared.sign.Sign.TheVariants as sign
use Rattle.sa_parser_expr.specs.Positions.{kind_at}
use Rattle.sa_parser_expr.specs.Forms.{nest, type}
use Rattle.sa_parser_expr.proofs.Runs.{taken, takes, handed_on, stops, makes}
use Rattle.sa_parser.proofs.ExactSignatures as exact
use Rattle.sa_parser.proofs.signature.written_result.Goals as goal

pub returns-then-not-is_sign-clause-exact : goal.returns-then-not-is_sign-clause-exact
returns-then-not-is_sign-clause-exact c =
    let t = c.args.tokens.now in
    let other : kind_at t.list.now c.args.from ≢ Some (token.Sign sign.Colon) = search rules in
    exact.no_result t c.args.from other

pub returns-in_err-ty-clause-exact : goal.returns-in_err-ty-clause-exact
returns-in_err-ty-clause-exact c =
    let t = c.args.tokens.now in
    let colon : kind_at t.list.now c.args.from ≡ Some (token.Sign sign.Colon) = search rules in
    handed_on t (nest type) (c.args.from + 1) _ (search rules) c.in_err-ty.ensures.exact
    (λ rest r. exact.behind_result t c.args.from colon (stops t r))

pub returns-clause-exact : goal.returns-clause-exact
returns-clause-exact c =
    let t = c.args.tokens.now in
    let colon : kind_at t.list.now c.args.from ≡ Some (token.Sign sign.Colon) = search rules in
    let class = c.in_ok-ty in
    takes t (exact.behind_result t c.args.from colon (makes t class.next (taken t class.ensures.exact)))
