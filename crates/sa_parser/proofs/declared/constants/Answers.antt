use Rattle.std.proofs.Common.{◌≡◌, ◌≢◌, Some, rules}
use Rattle.sa_lexer.specs.declared.token.TokenKind.TheVariants as token
use Rattle.sa_lexer.specs.declared.sign.Sign.TheVariants as sign
use Rattle.sa_parser_expr.specs.Positions.{kind_at}
use Rattle.sa_parser_expr.specs.StatementForms.{name_form}
use Rattle.sa_parser_expr.proofs.Runs.{handed_on}
use Rattle.sa_parser.proofs.ExactStatements.{instead}
use Rattle.sa_parser.proofs.ExactDeclared as exact
use Rattle.sa_parser.proofs.declared.constants.Goals as goal

pub returns-in_err-first-clause-exact : goal.returns-in_err-first-clause-exact
returns-in_err-first-clause-exact c =
    let t = c.args.tokens.now in
    handed_on t name_form c.args.from _ (search rules) c.in_err-first.ensures.exact
    (λ rest r. exact.no_constant t c.args.access c.args.from r)

pub returns-then-is_sign-clause-exact : goal.returns-then-is_sign-clause-exact
returns-then-is_sign-clause-exact c =
    let t = c.args.tokens.now in
    let first = c.in_ok-first in
    let colon : kind_at t.list.now first.next ≡ Some (token.Sign sign.Colon) = search rules in
    let name = exact.named t c.args.from first.next _ first.ensures.exact in
    instead t (λ v r. exact.typed_there t c.args.access c.args.from _ name (rw first.ensures.alone at colon) (rw first.ensures.alone at r))
    c.typed_constant.result c.typed_constant.ensures.exact

pub returns-else-is_sign-clause-exact : goal.returns-else-is_sign-clause-exact
returns-else-is_sign-clause-exact c =
    let t = c.args.tokens.now in
    let first = c.in_ok-first in
    let other : kind_at t.list.now first.next ≢ Some (token.Sign sign.Colon) = search rules in
    let name = exact.named t c.args.from first.next _ first.ensures.exact in
    instead t
    (λ v r. exact.counted_there t c.args.access c.args.from _ name (rw first.ensures.alone at other) (rw first.ensures.alone at r))
    c.counted_constants.result c.counted_constants.ensures.exact
