use Rattle.std.proofs.Common.{◌≡◌, ◌≢◌, Some, rules}
use Rattle.sa_lexer.specs.declared.token.TokenKind.TheVariants as token
use Rattle.sa_parser_expr.specs.Positions.{kind_at}
use Rattle.sa_parser.proofs.ExactHeads as exact
use Rattle.sa_parser.proofs.ExactStatements.{instead}
use Rattle.sa_parser.proofs.class.types_after.Goals as goal

pub returns-then-not-is_sign-clause-exact : goal.returns-then-not-is_sign-clause-exact
returns-then-not-is_sign-clause-exact c =
    let t = c.args.tokens.now in
    let other : kind_at t.list.now c.args.from ≢ Some (token.Sign c.args.sign) = search rules in
    exact.no_types t c.args.sign c.args.from _ other (search rules)

pub returns-clause-exact : goal.returns-clause-exact
returns-clause-exact c =
    let t = c.args.tokens.now in
    let there : kind_at t.list.now c.args.from ≡ Some (token.Sign c.args.sign) = search rules in
    instead t (λ v r. exact.behind_sign t c.args.sign c.args.from there r) c.read_types.result c.read_types.ensures.exact
