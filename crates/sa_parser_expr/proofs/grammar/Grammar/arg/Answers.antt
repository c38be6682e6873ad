use Rattle.std.proofs.Common.{◌≢◌, Some, arith, rules}
use Rattle.sa_lexer.specs.declared.token.TokenKind.TheVariants as token
use Rattle.sa_lexer.specs.declared.sign.Sign.TheVariants as sign
use Rattle.sa_parser_expr.specs.Enclosures.{outside}
use Rattle.sa_parser_expr.specs.Forms.{expr, nest}
use Rattle.sa_parser_expr.specs.Positions.{kind_at}
use Rattle.sa_parser_expr.proofs.ExactArguments as exact
use Rattle.sa_parser_expr.proofs.Runs.{handed_on, stops}
use Rattle.sa_parser_expr.proofs.SpelledExpressions.{valued}
use Rattle.sa_parser_expr.proofs.grammar.Grammar.arg.Goals as goal

pub returns-then-is_sign-clause-spelled : goal.returns-then-is_sign-clause-spelled
returns-then-is_sign-clause-spelled g c = c.left_open.ensures.spelled c.args.self.now.scope

pub returns-clause-spelled : goal.returns-clause-spelled
returns-clause-spelled g c =
    let mode = c.given_mode-mode in
    let value = c.in_ok-value.ensures in
    valued c.args.self.now.tokens c.args.self.now.scope c.args.from mode.result.1 _ _ _ mode.ensures.spelled value.spelled mode.ensures.from (omega (arith, value.next.0))

pub returns-then-is_sign-clause-exact : goal.returns-then-is_sign-clause-exact
returns-then-is_sign-clause-exact g c = c.left_open.ensures.exact c.args.self.now.scope

pub returns-in_err-value-clause-exact : goal.returns-in_err-value-clause-exact
returns-in_err-value-clause-exact g c =
    let t = c.args.self.now.tokens in
    let s = c.args.self.now.scope in
    let other : kind_at t.list.now c.args.from ≢ Some (token.Sign sign.Underscore) = search rules in
    let mode = c.given_mode-mode in
    handed_on t (nest (expr s outside)) mode.result.1 _ (search rules) c.in_err-value.ensures.exact
    (λ rest r. exact.behind_mode t s other mode.ensures.exact (stops t r))

pub returns-clause-exact : goal.returns-clause-exact
returns-clause-exact g c =
    let t = c.args.self.now.tokens in
    let other : kind_at t.list.now c.args.from ≢ Some (token.Sign sign.Underscore) = search rules in
    let mode = c.given_mode-mode in
    exact.valued t c.args.self.now.scope c.args.from mode.result.1 _ _ _ other mode.ensures.exact c.in_ok-value.ensures.exact
