-- What a reader gives that is made of what was written: the form reads the written, and the reader gives what is made of it.
use Rattle.std.specs.Prelude.{◌≡◌, ℕ, Result, Ok, Err}
use Rattle.sa_ast.specs.declared.refusal.Rejection.{Rejection}
use Rattle.sa_parser_expr.specs.declared.tokens.Tokens.{Tokens}
use Rattle.sa_parser_expr.specs.Exactly.{Takes, ReadsAs}
use Rattle.sa_parser_expr.specs.Forms.{Form}

-- of the lexemes from an index on the form reads what is written, this is made of it, and those from the next index on are left
pub record TakesMade {A B : Type 0} (form : Form A) (made_of : A → B) (t : Tokens) (from : ℕ) (made : B) (next : ℕ) : Type 0 where
  pub written : A
  pub taken : Takes form t from written next
  pub same : made ≡ made_of written

-- what is made of what the form reads from an index on, with the next index, or what the form refuses
abbrev pub ReadsMade : {A B : Type 0} → Form A → (A → B) → Tokens → ℕ → Result (B × ℕ) Rejection → Type 0
ReadsMade form made_of t from (Ok read) = TakesMade form made_of t from read.0 read.1
ReadsMade form made_of t from (Err fault) = ReadsAs form t from (Err fault)
