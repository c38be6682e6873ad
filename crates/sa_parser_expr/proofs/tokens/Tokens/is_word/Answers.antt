-- The derived `==` on words: a long enum, at which the search stops.
use Rattle.std.proofs.Common.{rules, ◌≡◌, ◌∙◌, Some, sym, ap, refl}
use denote.Enum.Bare.{same_true}
use Rattle.sa_lexer.specs.declared.word.Word.{Word}
use Rattle.sa_lexer.specs.contracts.word.Word.{the_type}
use Rattle.sa_lexer.specs.declared.token.TokenKind.{TokenKind}
use Rattle.sa_lexer.specs.declared.token.TokenKind.TheVariants as token
use Rattle.sa_parser_expr.specs.Positions.{kind_at}
use Rattle.sa_parser_expr.proofs.tokens.Tokens.is_word.Goals as goal

pub returns-in-Some-Word-clause-value : goal.returns-in-Some-Word-clause-value
returns-in-Some-Word-clause-value c =
    let same : c.in-Some-Word.there ≡ c.args.word = same_true the_type (search rules) _ _ (search rules) in
    let there : kind_at c.args.self.now.list.now c.args.at ≡ Some (token.Word c.args.word) =
    sym c.in-Some-Word.ensures.value ∙ ap (λ (kind : TokenKind). Some kind) c.in-Some-Word.field-0-is ∙ ap (λ (word : Word). Some (token.Word word)) same in
    (λ _. there, λ _. refl)
