use Rattle.std.proofs.Common.{◌≡◌, ◌≢◌, Some, rules}
use Rattle.sa_lexer.specs.declared.token.TokenKind.TheVariants as token
use Rattle.sa_lexer.specs.declared.word.Word.TheVariants as word
use Rattle.sa_parser_expr.specs.Positions.{kind_at}
use Rattle.sa_parser.proofs.ExactClasses as exact
use Rattle.sa_parser.proofs.class.class.Goals as goal

pub returns-then-is_word-clause-exact : goal.returns-then-is_word-clause-exact
returns-then-is_word-clause-exact c =
    let t = c.args.tokens.now in
    let there : kind_at t.list.now c.args.from ≡ Some (token.Word word.Abstract) = search rules in
    exact.made_instead t _ (λ v r. exact.of_abstract t c.args.file_kind c.args.from there r) c.abstract_class.result
    (c.abstract_class.ensures.exact c.args.place)

pub returns-clause-exact : goal.returns-clause-exact
returns-clause-exact c =
    let t = c.args.tokens.now in
    let other : kind_at t.list.now c.args.from ≢ Some (token.Word word.Abstract) = search rules in
    exact.made_instead t _ (λ v r. exact.of_concrete t c.args.file_kind c.args.from other r)
    c.concrete_class.result c.concrete_class.ensures.exact
