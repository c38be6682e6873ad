-- A function value that reads nested expressions.
use Rattle.std.specs.Prelude.{ℕ, ◌<◌, Result, IfOk, IfErr}
use Rattle.std.specs.declared.alloc.Global.{Global}
use denote.Ref.{Bor}
use Rattle.sa_ast.specs.declared.expr.Expr.{Expr}
use Rattle.sa_ast.specs.declared.refusal.Rejection.{Rejection}
use Rattle.sa_parser_expr.specs.declared.tokens.Tokens.{Tokens}
use Rattle.sa_parser_expr.specs.declared.grammar.Form.{Form}
use Rattle.sa_parser_expr.specs.declared.grammar.ConditionScope.{ConditionScope}
use Rattle.sa_parser_expr.specs.Exactly.{ReadsAs, nested_form}
use Rattle.sa_parser_expr.specs.Expressions.{IsForm}
use Rattle.sa_parser_expr.specs.Lexemes.{between}
use Rattle.sa_parser_expr.specs.Positions.{IsAfter, IsUnexpected}

-- it may be called at each index after this one, and reads at least one token there, which spell the form, or refuses one
pub record Nests (from : ℕ) (pre : Global → Bor Tokens → ConditionScope → Form → ℕ → Type 0)
    (post : Global → Bor Tokens → ConditionScope → Form → ℕ → Result (Expr × ℕ) Rejection → Type 0) : Type 0 where
  pub callable : (alloc : Global) (tokens : Bor Tokens) (scope : ConditionScope) (form : Form) (at : ℕ) → from < at → pre alloc tokens scope form at
  pub next : (alloc : Global) (tokens : Bor Tokens) (scope : ConditionScope) (form : Form) (at : ℕ) (r : Result (Expr × ℕ) Rejection)
      → post alloc tokens scope form at r
      → IfOk r (λ read. IsAfter tokens.now.list.now at read.1)
  pub spelled : (alloc : Global) (tokens : Bor Tokens) (scope : ConditionScope) (form : Form) (at : ℕ) (r : Result (Expr × ℕ) Rejection)
      → post alloc tokens scope form at r
      → IfOk r (λ read. IsForm scope form (between tokens.now at read.1) read.0)
  pub exact : (alloc : Global) (tokens : Bor Tokens) (scope : ConditionScope) (form : Form) (at : ℕ) (r : Result (Expr × ℕ) Rejection)
      → post alloc tokens scope form at r
      → ReadsAs (nested_form scope form) tokens.now at r
  pub refused : (alloc : Global) (tokens : Bor Tokens) (scope : ConditionScope) (form : Form) (at : ℕ) (r : Result (Expr × ℕ) Rejection)
      → post alloc tokens scope form at r
      → IfErr r (IsUnexpected tokens.now.file)
