-- The two kinds of names of features share an arm.
use Rattle.std.proofs.Common.{rules, arith, ◌≡◌, ◌⊎◌, ◌∙◌, Option, Some, ap, refl, inl, inr}
use Rattle.sa_lexer.specs.declared.token.TokenKind.{TokenKind}
use Rattle.sa_lexer.specs.declared.token.TokenKind.TheVariants as token
use Rattle.sa_parser_expr.specs.Positions.{kind_at}
use Rattle.sa_parser_expr.proofs.tokens.Tokens.is_feature_name.Goals as goal

named : {k : Option TokenKind} {kind : TokenKind} → k ≡ Some kind → (kind ≡ token.Lower) ⊎ (kind ≡ token.IterName) → (k ≡ Some token.Lower) ⊎ (k ≡ Some token.IterName)
named there (inl is) = inl (there ∙ ap (λ (kind : TokenKind). Some kind) is)
named there (inr is) = inr (there ∙ ap (λ (kind : TokenKind). Some kind) is)

pub returns-in-Some-Lower-clause-value : goal.returns-in-Some-Lower-clause-value
returns-in-Some-Lower-clause-value c =
    let kind = c.in-Some-Lower.field-0.now in
    let there : kind_at c.args.self.now.list.now c.args.at ≡ Some kind = first_of (search rules, grind arith) in
    let names : (kind ≡ token.Lower) ⊎ (kind ≡ token.IterName) = first_of (assumption c.in-Some-Lower, search rules) in
    (λ _. named there names, λ _. refl)
