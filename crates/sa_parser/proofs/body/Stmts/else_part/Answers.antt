use Rattle.sa_parser.specs.Statements as stmts
use Rattle.sa_parser.proofs.SpelledStatements.{no_else}
use Rattle.std.proofs.Common.{◌≡◌, ◌≢◌, Some, rules}
use Rattle.sa_lexer.specs.declared.token.TokenKind.TheVariants as token
use Rattle.sa_lexer.specs.declared.word.Word.TheVariants as word
use Rattle.sa_parser_expr.specs.Positions.{kind_at}
use Rattle.sa_parser_expr.specs.StatementForms.{body_form}
use Rattle.sa_parser_expr.proofs.Runs.{handed_on, stops}
use Rattle.sa_parser.proofs.ExactBlocks as exact
use Rattle.sa_parser.proofs.body.Stmts.else_part.Goals as goal

pub returns-then-not-is_word-clause-spelled : goal.returns-then-not-is_word-clause-spelled
returns-then-not-is_word-clause-spelled g c = no_else c.args.self.now.tokens c.args.from

pub returns-clause-spelled : goal.returns-clause-spelled
returns-clause-spelled g c = stmts.else_part c.in_ok-body.ensures.spelled

pub returns-then-not-is_word-clause-exact : goal.returns-then-not-is_word-clause-exact
returns-then-not-is_word-clause-exact g c =
    let t = c.args.self.now.tokens in
    let other : kind_at t.list.now c.args.from ≢ Some (token.Word word.Else) = search rules in
    exact.no_else t c.args.from other

pub returns-in_err-body-clause-exact : goal.returns-in_err-body-clause-exact
returns-in_err-body-clause-exact g c =
    let t = c.args.self.now.tokens in
    let there : kind_at t.list.now c.args.from ≡ Some (token.Word word.Else) = search rules in
    handed_on t (body_form word.Else) c.args.from _ (search rules) c.in_err-body.ensures.exact
    (λ rest r. exact.behind_else t c.args.from there (stops t (exact.inside t word.Else c.args.from there r)))

pub returns-clause-exact : goal.returns-clause-exact
returns-clause-exact g c =
    let t = c.args.self.now.tokens in
    let there : kind_at t.list.now c.args.from ≡ Some (token.Word word.Else) = search rules in
    exact.else_part t c.args.from _ _ there c.in_ok-body.ensures.exact
