use Rattle.std.proofs.Common.{◌≡◌, ◌≢◌, ◌+◌, Some, arith, rules}
use Rattle.sa_lexer.specs.declared.token.TokenKind.TheVariants as token
use Rattle.sa_lexer.specs.declared.sign.Sign.TheVariants as sign
use Rattle.sa_parser_expr.specs.Forms.{nest, type}
use Rattle.sa_parser_expr.specs.Positions.{kind_at}
use Rattle.sa_parser_expr.proofs.ExactArguments as exact
use Rattle.sa_parser_expr.proofs.Runs.{handed_on, stops}
use Rattle.sa_parser_expr.proofs.SpelledExpressions.{left, left_of_type}
use Rattle.sa_parser_expr.proofs.postfix.left_open.Goals as goal

pub returns-then-not-is_sign-clause-spelled : goal.returns-then-not-is_sign-clause-spelled
returns-then-not-is_sign-clause-spelled c = λ scope. left c.args.tokens.now scope c.args.from _ c.requires.there (search rules)

pub returns-clause-spelled : goal.returns-clause-spelled
returns-clause-spelled c = λ scope.
    let colon : kind_at c.args.tokens.now.list.now (c.args.from + 1) ≡ Some (token.Sign sign.Colon) = search rules in
    let read = c.in_ok-ty.ensures in
    left_of_type c.args.tokens.now scope c.args.from _ _ _ c.requires.there colon read.spelled (omega (arith, read.next.0)) (search rules)

pub returns-then-not-is_sign-clause-exact : goal.returns-then-not-is_sign-clause-exact
returns-then-not-is_sign-clause-exact c = λ scope.
    let other : kind_at c.args.tokens.now.list.now (c.args.from + 1) ≢ Some (token.Sign sign.Colon) = search rules in
    exact.left c.args.tokens.now scope c.args.from _ c.requires.there other (search rules)

pub returns-in_err-ty-clause-exact : goal.returns-in_err-ty-clause-exact
returns-in_err-ty-clause-exact c = λ scope.
    let colon : kind_at c.args.tokens.now.list.now (c.args.from + 1) ≡ Some (token.Sign sign.Colon) = search rules in
    handed_on c.args.tokens.now (nest type) (c.args.from + 2) _ (search rules) c.in_err-ty.ensures.exact
    (λ rest r. exact.behind_left_colon c.args.tokens.now scope c.args.from c.requires.there colon (stops c.args.tokens.now r))

pub returns-clause-exact : goal.returns-clause-exact
returns-clause-exact c = λ scope.
    let colon : kind_at c.args.tokens.now.list.now (c.args.from + 1) ≡ Some (token.Sign sign.Colon) = search rules in
    exact.left_of_type c.args.tokens.now scope c.args.from _ _ _ c.requires.there colon (search rules) c.in_ok-ty.ensures.exact
