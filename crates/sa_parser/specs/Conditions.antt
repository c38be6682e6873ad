-- Conditions: a relation for each production of the grammar of clauses and invariants, with a case for each of its
-- alternatives.
use Rattle.std.specs.Prelude.{◌≡◌, List, [], ◌∷◌, ◌++◌, codes, Option, Some, None}
use Rattle.sa_lexer.specs.declared.token.TokenKind.TheVariants.{ClassName}
use Rattle.sa_lexer.specs.declared.sign.Sign.TheVariants as sign
use Rattle.sa_lexer.specs.declared.word.Word.{Word}
use Rattle.sa_lexer.specs.declared.word.Word.TheVariants as word
use Rattle.sa_ast.specs.declared.ty.Mode.TheVariants.{In}
use Rattle.sa_ast.specs.declared.expr.Expr.{Expr}
use Rattle.sa_ast.specs.declared.expr.ExprArg.TheVariants.{Value}
use Rattle.sa_ast.specs.declared.contract.Condition.{Condition}
use Rattle.sa_parser_expr.specs.declared.grammar.ConditionScope.{ConditionScope}
use Rattle.sa_parser_expr.specs.declared.grammar.ConditionScope.TheVariants.{Plain, PostClause}
use Rattle.sa_parser_expr.specs.Lexemes.{Lexeme, IsWord, IsSign}
use Rattle.sa_parser_expr.specs.Expressions.{IsArg}
use Rattle.sa_parser.specs.declared.contract.Clauses.{Clauses}
use Rattle.sa_parser.specs.declared.file.FileKind.{FileKind}
use Rattle.sa_parser.specs.declared.file.FileKind.TheVariants.{Program}

-- expr, outside of any array literal, as what is allowed as an argument without a mode. It has the position of its first token
pub data IsCondition (scope : ConditionScope) : List Lexeme → Condition → Type 0 where
  condition : {l : Lexeme} {ls : List Lexeme} {e : Expr} → IsArg scope (l ∷ ls) (Value In e)
      → IsCondition scope (l ∷ ls) (record { test = e; pos = l.pos })

-- [WORD expr]
pub data IsClause (v : Word) (scope : ConditionScope) : List Lexeme → Option Condition → Type 0 where
  absent : IsClause v scope [] None
  given : {w : Lexeme} {ls : List Lexeme} {condition : Condition} → IsWord v w → IsCondition scope ls condition
      → IsClause v scope (w ∷ ls) (Some condition)

-- the clauses of a feature for which none is written
abbrev pub no_clauses : Clauses
no_clauses = record { pre = None; post = None }

-- clauses = ["pre" expr] ["post" expr], of which the prelude has none
pub data IsClauses (file_kind : FileKind) : List Lexeme → Clauses → Type 0 where
  absent : IsClauses file_kind [] no_clauses
  given : {ls ms : List Lexeme} {pre post : Option Condition}
      → file_kind ≡ Program → IsClause word.Pre Plain ls pre → IsClause word.Post PostClause ms post
      → IsClauses file_kind (ls ++ ms) (record { pre = pre; post = post })

-- the class name "BOOL"
pub record IsBool (l : Lexeme) : Type 0 where
  pub kind : l.kind ≡ ClassName
  pub bytes : l.bytes ≡ codes "BOOL"

-- closing = [";"] "end"
pub data IsClosing : List Lexeme → Type 0 where
  at_once : {w : Lexeme} → IsWord word.End w → IsClosing (w ∷ [])
  after_semicolon : {semicolon w : Lexeme} → IsSign sign.Semicolon semicolon → IsWord word.End w → IsClosing (semicolon ∷ w ∷ [])

-- "invariant" ":" "BOOL" "is" "return" expr closing
pub data IsInvariant : List Lexeme → Condition → Type 0 where
  invariant : {w colon bool is gives : Lexeme} {ls ms : List Lexeme} {holds : Condition}
      → IsWord word.Invariant w → IsSign sign.Colon colon → IsBool bool → IsWord word.Is is
      → IsWord word.Return gives → IsCondition Plain ls holds → IsClosing ms
      → IsInvariant (w ∷ colon ∷ bool ∷ is ∷ gives ∷ ls ++ ms) holds
