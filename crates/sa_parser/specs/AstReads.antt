-- What is read of a file's tokens where the index after it isn't given.
use Rattle.std.specs.Prelude.{⊤, ℕ, Result, Ok, Err}
use Rattle.sa_ast.specs.declared.refusal.Rejection.{Rejection}
use Rattle.sa_ast.specs.declared.refusal.Rejection.TheVariants as fault
use Rattle.sa_parser_expr.specs.declared.tokens.Tokens.{Tokens}
use Rattle.sa_parser_expr.specs.Forms.{Form}
use Rattle.sa_parser_expr.specs.Exactly.{Takes, Refuses}

-- of the lexemes from an index on the form reads this AST, up to some index
pub record TakesAst {A : Type 0} (form : Form A) (t : Tokens) (from : ℕ) (tree : A) : Type 0 where
  pub next : ℕ
  pub is : Takes form t from tree next

-- an AST, or a refusal, is what the form reads from an index on. Where memory ran out nothing is said
abbrev pub ReadsAst : {A : Type 0} → Form A → Tokens → ℕ → Result A Rejection → Type 0
ReadsAst form t from (Ok tree) = TakesAst form t from tree
ReadsAst form t from (Err (fault.Refused refusal)) = Refuses form t from (fault.Refused refusal)
ReadsAst form t from (Err (fault.Failed why)) = ⊤
