-- Forms, in which the grammar is read with a lookahead of one lexeme, and how a form is read.
use Rattle.std.specs.Prelude.{ℕ, zero, suc, Bool, false, cond, ◌||◌, List, [], ◌∷◌}
use Rattle.sa_lexer.specs.declared.sign.Sign.{Sign}
use Rattle.sa_lexer.specs.declared.sign.Sign.TheVariants as sign
use Rattle.sa_lexer.specs.declared.word.Word.{Word}
use Rattle.sa_ast.specs.declared.pos.Pos.{Pos}
use Rattle.sa_ast.specs.declared.ty.Ty.{Ty}
use Rattle.sa_ast.specs.declared.expr.Expr.{Expr}
use Rattle.sa_ast.specs.declared.stmt.Stmt.{Stmt}
use Rattle.sa_parser_expr.specs.declared.grammar.ConditionScope.{ConditionScope}
use Rattle.sa_parser_expr.specs.Lexemes.{Lexeme}
use Rattle.sa_parser_expr.specs.Enclosures.{Where}
use Rattle.sa_parser_expr.specs.Readings.{Reading, Read, Refused}
use Rattle.sa_parser_expr.specs.Tests.{is_sign, is_word}

-- the productions that are recursive
pub data Nested : Type 0 where
  type : Nested
  expr : ConditionScope → Where → Nested
  unary : ConditionScope → Where → Nested
  power : ConditionScope → Where → Nested
  post : ConditionScope → Where → Nested
  stmts : Nested

-- what they spell
abbrev pub Ast : Nested → Type 0
Ast type = Ty
Ast (expr s x) = Expr
Ast (unary s x) = Expr
Ast (power s x) = Expr
Ast (post s x) = Expr
Ast stmts = List Stmt

-- a form that gives an `A`
pub data Form : Type 0 → Type 1 where
  -- nothing is taken
  give : {A : Type 0} → A → Form A
  -- what is there is refused
  refuse : {A : Type 0} → Form A
  -- a lexeme that meets the test is taken, and the form after it continues; without one the other form does
  shift : {A : Type 0} → (Lexeme → Bool) → (Lexeme → Form A) → Form A → Form A
  -- the first form where it opens with the next lexeme, and the second one where it doesn't
  either : {A : Type 0} → Form A → Form A → Form A
  -- one form, and after it another
  follow : {A B : Type 0} → Form A → (A → Form B) → Form B
  -- one or several, with a lexeme that meets the test between them
  separated : {A : Type 0} → (Lexeme → Bool) → Form A → Form (List A)
  -- as long as a lexeme meets the test it is taken, and the form after it makes another AST of the one so far
  repeat : {A : Type 0} → (Lexeme → Bool) → (A → Lexeme → Form A) → A → Form A
  -- a form, with the position where it begins
  placed : {A : Type 0} → Form A → Form (Pos × A)
  -- a production that nests
  nest : (n : Nested) → Form (Ast n)

-- a form, and something made of what it gives
abbrev pub make : {A B : Type 0} → (A → B) → Form A → Form B
make f form = follow form (λ a. give (f a))

-- one or several, with `,` between them
abbrev pub list : {A : Type 0} → Form A → Form (List A)
list item = separated (is_sign sign.Comma) item

-- a form, and a sign after it
abbrev pub until : {A : Type 0} → Sign → Form A → Form A
until s form = follow form (λ a. shift (is_sign s) (λ _. give a) refuse)

-- a form, and a word after it
abbrev pub until_word : {A : Type 0} → Word → Form A → Form A
until_word w form = follow form (λ a. shift (is_word w) (λ _. give a) refuse)

-- whether a form takes this lexeme first; of a production that nests it isn't asked
abbrev pub opens : {A : Type 0} → Form A → Lexeme → Bool
opens (give a) l = false
opens refuse l = false
opens (shift test go other) l = test l || opens other l
opens (either one other) l = opens one l || opens other l
opens (follow first next) l = opens first l
opens (separated test item) l = opens item l
opens (repeat test step a) l = test l
opens (placed form) l = opens form l
opens (nest n) l = false

abbrev pub Reader : Type 0 → Type 0
Reader A = List Lexeme → Reading A

abbrev pub following : {A B : Type 0} → (A → Reader B) → Reading A → Reading B
following go (Read tree rest) = go tree rest
following go (Refused rest) = Refused rest

abbrev pub with_read : {A B : Type 0} → (A → B) → Reading A → Reading B
with_read f (Read tree rest) = Read (f tree) rest
with_read f (Refused rest) = Refused rest

abbrev pub shifted : {A : Type 0} → (Lexeme → Bool) → (Lexeme → Reader A) → Reader A → Reader A
shifted test go other [] = other []
shifted test go other (l ∷ ls) = cond (test l) (go l ls) (other (l ∷ ls))

abbrev pub chosen : {A : Type 0} → (Lexeme → Bool) → Reader A → Reader A → Reader A
chosen test one other [] = other []
chosen test one other (l ∷ ls) = cond (test l) (one (l ∷ ls)) (other (l ∷ ls))

-- the position of the first lexeme, and any where there is none
abbrev pub pos_of : List Lexeme → Pos
pos_of [] = record { file = 0; at = 0 }
pos_of (l ∷ ls) = l.pos

-- one or several with a lexeme between them, so many at most
abbrev pub listed : {A : Type 0} → ℕ → (Lexeme → Bool) → Reader A → Reader (List A)
listed zero test item ls = Refused ls
listed (suc n) test item ls =
    following (λ a. shifted test (λ _ more. with_read (λ others. a ∷ others) (listed n test item more)) (λ more. Read (a ∷ []) more)) (item ls)

-- one less than so many iterations at most
abbrev pub repeated : {A : Type 0} → ℕ → (Lexeme → Bool) → (A → Lexeme → Reader A) → A → Reader A
repeated zero test step a ls = Refused ls
repeated (suc n) test step a ls = shifted test (λ l more. following (repeated n test step) (step a l more)) (λ more. Read a more) ls

-- how a form is read, to a level, by how productions that nest are
abbrev pub run : {A : Type 0} → ℕ → ((n : Nested) → Reader (Ast n)) → Form A → Reader A
run level nested (give a) ls = Read a ls
run level nested refuse ls = Refused ls
run level nested (shift test go other) ls = shifted test (λ l. run level nested (go l)) (run level nested other) ls
run level nested (either one other) ls = chosen (opens one) (run level nested one) (run level nested other) ls
run level nested (follow first next) ls = following (λ a. run level nested (next a)) (run level nested first ls)
run level nested (separated test item) ls = listed (suc level) test (run level nested item) ls
run level nested (repeat test step a) ls = repeated (suc level) test (λ tree l. run level nested (step tree l)) a ls
run level nested (placed form) ls = following (λ a more. Read (pos_of ls, a) more) (run level nested form ls)
run level nested (nest n) ls = nested n ls
