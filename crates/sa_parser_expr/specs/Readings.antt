-- How far a list of lexemes is read, by what its lexemes spell: as long as they begin an AST.
use Rattle.std.specs.Prelude.{◌≡◌, List, [], ◌∷◌, ◌++◌}
use Rattle.sa_parser_expr.specs.Lexemes.{Lexeme}

-- which lexemes spell which ASTs, as a production of the grammar says it
abbrev pub Spelling : Type 0 → Type 1
Spelling A = List Lexeme → A → Type 0

-- lexemes spell one AST at most
abbrev pub IsUnique : {A : Type 0} → Spelling A → Type 0
IsUnique {A = A} R = (ls : List Lexeme) (one other : A) → R ls one → R ls other → one ≡ other

-- some lexemes complete these
pub record Begins {A : Type 0} (R : Spelling A) (ls : List Lexeme) : Type 0 where
  pub more : List Lexeme
  pub tree : A
  pub spelled : R (ls ++ more) tree

-- what comes of reading: an AST, and the lexemes after those that were taken; or the lexemes from the one on that is refused
pub data Reading (A : Type 0) : Type 0 where
  Read : A → List Lexeme → Reading A
  Refused : List Lexeme → Reading A

-- the longest prefix of a list that begins an AST: with one more lexeme it begins none
pub record IsLongest {A : Type 0} (R : Spelling A) (ls front rest : List Lexeme) : Type 0 where
  pub parts : ls ≡ front ++ rest
  pub live : Begins R front
  pub dead : (l : Lexeme) (more : List Lexeme) → rest ≡ l ∷ more → Begins R (front ++ l ∷ []) → ⊥

-- the longest prefix is taken. It spells the AST that is read; or it spells none, and the next lexeme, or the end, is refused
pub data IsRead {A : Type 0} (R : Spelling A) (ls : List Lexeme) : Reading A → Type 0 where
  read : {front rest : List Lexeme} {tree : A} → IsLongest R ls front rest → R front tree → IsRead R ls (Read tree rest)
  refused : {front rest : List Lexeme} → IsLongest R ls front rest → ((tree : A) → R front tree → ⊥) → IsRead R ls (Refused rest)
