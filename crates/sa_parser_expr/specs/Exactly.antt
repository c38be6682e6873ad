-- What is read of a file's tokens is what a form of the grammar reads of their lexemes, exactly.
use Rattle.std.specs.Prelude.{◌≡◌, ◌≢◌, ⊤, ℕ, ◌+◌, List, drop, Option, Some, Result, Ok, Err}
use Rattle.std.specs.Option.{option_and_then}
use Rattle.sa_lexer.specs.declared.token.TokenKind.{TokenKind}
use Rattle.sa_lexer.specs.declared.token.TokenKind.TheVariants as token
use Rattle.sa_lexer.specs.declared.word.Word.TheVariants as word
use Rattle.sa_ast.specs.declared.ty.Mode.{Mode}
use Rattle.sa_ast.specs.declared.ty.Mode.TheVariants.{In, Out, Inout}
use Rattle.sa_ast.specs.declared.expr.Operator.{Operator}
use Rattle.sa_ast.specs.declared.refusal.Rejection.{Rejection}
use Rattle.sa_ast.specs.declared.refusal.Rejection.TheVariants as fault
use Rattle.sa_ast.specs.declared.expr.Expr.{Expr}
use Rattle.sa_parser_expr.specs.declared.grammar.Form as code
use Rattle.sa_parser_expr.specs.declared.grammar.Form.TheVariants as code_form
use Rattle.sa_parser_expr.specs.declared.grammar.ConditionScope.{ConditionScope}
use Rattle.sa_parser_expr.specs.declared.operators.Precedence.{Precedence}
use Rattle.sa_parser_expr.specs.declared.operators.Precedence.TheVariants.{Logical, Comparing, Adding, Multiplying}
use Rattle.sa_parser_expr.specs.declared.tokens.Tokens.{Tokens}
use Rattle.sa_parser_expr.specs.Enclosures.{Where, outside, where_of}
use Rattle.sa_parser_expr.specs.ExpressionForms.{expr_form, comparison_form, sum_form, product_form, unary_form}
use Rattle.sa_parser_expr.specs.Forms.{Form, nest, expr, post}
use Rattle.sa_parser_expr.specs.Grammar.{read_as}
use Rattle.sa_parser_expr.specs.Lexemes.{Lexeme, lexemes_of}
use Rattle.sa_parser_expr.specs.Positions.{kind_at, unexpected_at}
use Rattle.sa_parser_expr.specs.Readings.{Read, Refused}
use Rattle.sa_parser_expr.specs.Tests.{logical_kind, comparing_kind, adding_kind, multiplying_kind}

-- the lexemes of a file from an index on
unfoldable pub lexemes_from : Tokens → ℕ → List Lexeme
lexemes_from t from = drop from (lexemes_of t.file t.src.now t.list.now)

-- of the lexemes from an index on the form reads this AST, and leaves those from the next index on
pub record Takes {A : Type 0} (form : Form A) (t : Tokens) (from : ℕ) (tree : A) (next : ℕ) : Type 0 where
  pub is : read_as form (lexemes_from t from) ≡ Read tree (lexemes_from t next)

-- of the lexemes from an index on the form refuses the one at another index, or the end of the file; and the refusal is E06 there
pub record Refuses {A : Type 0} (form : Form A) (t : Tokens) (from : ℕ) (refusal : Rejection) : Type 0 where
  pub at : ℕ
  pub is : read_as form (lexemes_from t from) ≡ Refused (lexemes_from t at)
  pub fault : refusal ≡ unexpected_at t.file t.src.now t.list.now at

-- the same result with another AST
abbrev pub map_value : {A B : Type 0} → (A → B) → Result (A × ℕ) Rejection → Result (B × ℕ) Rejection
map_value f (Ok read) = Ok (f read.0, read.1)
map_value f (Err refusal) = Err refusal

-- an AST with the next index, or a refusal, is what the form reads from an index on. Where memory ran out nothing is said
abbrev pub ReadsAs : {A : Type 0} → Form A → Tokens → ℕ → Result (A × ℕ) Rejection → Type 0
ReadsAs form t from (Ok read) = Takes form t from read.0 read.1
ReadsAs form t from (Err (fault.Refused refusal)) = Refuses form t from (fault.Refused refusal)
ReadsAs form t from (Err (fault.Failed why)) = ⊤

-- the same of all lexemes of a file, where `unexpected` is E06 at an index
abbrev pub ReadsOf : {A : Type 0} → Form A → List Lexeme → (ℕ → Rejection) → ℕ → Result (A × ℕ) Rejection → Type 0
ReadsOf form ls unexpected from (Ok read) = read_as form (drop from ls) ≡ Read read.0 (drop read.1 ls)
ReadsOf form ls unexpected from (Err (fault.Refused refusal)) =
    (at : ℕ) × (read_as form (drop from ls) ≡ Refused (drop at ls)) × (fault.Refused refusal ≡ unexpected at)
ReadsOf form ls unexpected from (Err (fault.Failed why)) = ⊤

-- the form of a production of expressions that nests
abbrev pub nested_form : ConditionScope → code.Form → Form Expr
nested_form s (code_form.Expr around) = nest (expr s (where_of around))
nested_form s code_form.Post = nest (post s outside)

-- the mode that is written before the value of an argument, and the index after it
pub data ModeAt (t : Tokens) (at : ℕ) : Mode → ℕ → Type 0 where
  out_there : kind_at t.list.now at ≡ Some (token.Word word.Out) → ModeAt t at Out (at + 1)
  inout_there : kind_at t.list.now at ≡ Some (token.Word word.Inout) → ModeAt t at Inout (at + 1)
  no_mode_there : kind_at t.list.now at ≢ Some (token.Word word.Out) → kind_at t.list.now at ≢ Some (token.Word word.Inout)
      → ModeAt t at In at

-- ---- operators by their precedence

abbrev pub operators_of : Precedence → TokenKind → Option Operator
operators_of Logical = logical_kind
operators_of Comparing = comparing_kind
operators_of Adding = adding_kind
operators_of Multiplying = multiplying_kind

-- the operator, of these, that is at an index
abbrev pub operator_at : (TokenKind → Option Operator) → Tokens → ℕ → Option Operator
operator_at operators t at = option_and_then operators (kind_at t.list.now at)

abbrev pub operation_of : Precedence → ConditionScope → Where → Form Expr
operation_of Logical = expr_form
operation_of Comparing = comparison_form
operation_of Adding = sum_form
operation_of Multiplying = product_form

abbrev pub operand_of : Precedence → ConditionScope → Where → Form Expr
operand_of Logical = comparison_form
operand_of Comparing = sum_form
operand_of Adding = product_form
operand_of Multiplying = unary_form
