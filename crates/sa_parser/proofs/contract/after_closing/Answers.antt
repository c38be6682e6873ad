use Rattle.std.proofs.Common.{◌≡◌, ◌≢◌, Some, rules}
use Rattle.sa_lexer.specs.declared.token.TokenKind.TheVariants as token
use Rattle.sa_lexer.specs.declared.sign.Sign.TheVariants as sign
use Rattle.sa_parser_expr.specs.Positions.{kind_at}
use Rattle.sa_parser.proofs.ExactConditions as exact
use Rattle.sa_parser.proofs.contract.after_closing.Goals as goal

pub returns-then-is_sign-clause-exact : goal.returns-then-is_sign-clause-exact
returns-then-is_sign-clause-exact c =
    let t = c.args.tokens.now in
    let semicolon : kind_at t.list.now c.args.from ≡ Some (token.Sign sign.Semicolon) = search rules in
    let ends = c.after_word.ensures in
    λ holds. exact.end_behind t holds c.args.from c.after_word.result semicolon ends.next ends.word ends.another ends.fault

pub returns-clause-exact : goal.returns-clause-exact
returns-clause-exact c =
    let t = c.args.tokens.now in
    let other : kind_at t.list.now c.args.from ≢ Some (token.Sign sign.Semicolon) = search rules in
    let ends = c.after_word-2.ensures in
    λ holds. exact.end_at_once t holds c.args.from c.after_word-2.result other ends.next ends.word ends.another ends.fault
