-- A function value that reads nested bodies.
use Rattle.std.specs.Prelude.{ℕ, ◌<◌, List, Result, IfOk, IfErr}
use Rattle.std.specs.declared.alloc.Global.{Global}
use denote.Ref.{Bor}
use Rattle.sa_lexer.specs.declared.word.Word.{Word}
use Rattle.sa_ast.specs.declared.stmt.Stmt.{Stmt}
use Rattle.sa_ast.specs.declared.refusal.Rejection.{Rejection}
use Rattle.sa_parser_expr.specs.declared.tokens.Tokens.{Tokens}
use Rattle.sa_parser_expr.specs.Exactly.{ReadsAs}
use Rattle.sa_parser_expr.specs.Lexemes.{between}
use Rattle.sa_parser_expr.specs.Positions.{IsAfter, IsUnexpected}
use Rattle.sa_parser_expr.specs.StatementForms.{body_form}
use Rattle.sa_parser.specs.Statements.{IsBody}

-- it may be called at each index after this one, and reads at least one token there, which spell the body, or refuses one
pub record NestsBodies (from : ℕ) (pre : Global → Bor Tokens → Word → ℕ → Type 0)
    (post : Global → Bor Tokens → Word → ℕ → Result (List Stmt × ℕ) Rejection → Type 0) : Type 0 where
  pub callable : (alloc : Global) (tokens : Bor Tokens) (word : Word) (at : ℕ) → from < at → pre alloc tokens word at
  pub next : (alloc : Global) (tokens : Bor Tokens) (word : Word) (at : ℕ) (r : Result (List Stmt × ℕ) Rejection)
      → post alloc tokens word at r
      → IfOk r (λ read. IsAfter tokens.now.list.now at read.1)
  pub spelled : (alloc : Global) (tokens : Bor Tokens) (word : Word) (at : ℕ) (r : Result (List Stmt × ℕ) Rejection)
      → post alloc tokens word at r
      → IfOk r (λ read. IsBody word (between tokens.now at read.1) read.0)
  pub refused : (alloc : Global) (tokens : Bor Tokens) (word : Word) (at : ℕ) (r : Result (List Stmt × ℕ) Rejection)
      → post alloc tokens word at r
      → IfErr r (IsUnexpected tokens.now.file)
  pub exact : (alloc : Global) (tokens : Bor Tokens) (word : Word) (at : ℕ) (r : Result (List Stmt × ℕ) Rejection)
      → post alloc tokens word at r
      → ReadsAs (body_form word) tokens.now at r
