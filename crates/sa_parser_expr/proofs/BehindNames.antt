-- An expression that begins with a name is read after it as it is read with it.
use Rattle.std.proofs.Common.{◌≡◌, ℕ, List, ◌∷◌, refl, ap, ◌∙◌}
use Rattle.sa_lexer.specs.declared.token.TokenKind.{TokenKind}
use Rattle.sa_lexer.specs.declared.token.TokenKind.TheVariants as token
use Rattle.sa_parser_expr.specs.declared.grammar.ConditionScope.TheVariants.{Plain}
use Rattle.sa_parser_expr.specs.Enclosures.{outside}
use Rattle.sa_parser_expr.specs.Forms.{Nested, Reader, Ast, run}
use Rattle.sa_parser_expr.specs.Lexemes.{Lexeme}
use Rattle.sa_parser_expr.specs.ExpressionForms.{expr_form, comparison_form, sum_form, product_form, operation_form, unary_form, power_form}
use Rattle.sa_parser_expr.specs.ExpressionForms.{post_form, placed_post_form, first_form, named_form}
use Rattle.sa_parser_expr.specs.StatementForms.{after_name_form}

-- a lexeme, but of this kind
abbrev pub with_kind : TokenKind → Lexeme → Lexeme
with_kind kind l = record { kind = kind; bytes = l.bytes; pos = l.pos }

module _ (level : ℕ) (nested : (n : Nested) → Reader (Ast n)) where
  pub kind_behind : (l : Lexeme) (ls : List Lexeme)
      → run level nested (expr_form Plain outside) (with_kind token.Lower l ∷ ls) ≡ run level nested (after_name_form l) ls
  unfolding expr_form comparison_form sum_form product_form operation_form unary_form power_form post_form placed_post_form first_form named_form after_name_form
  kind_behind l ls = refl

  pub same_behind : (l : Lexeme) → l.kind ≡ token.Lower → (ls : List Lexeme)
      → run level nested (expr_form Plain outside) (l ∷ ls) ≡ run level nested (after_name_form l) ls
  same_behind l is ls = ap (λ kind. run level nested (expr_form Plain outside) (with_kind kind l ∷ ls)) is ∙ kind_behind l ls
