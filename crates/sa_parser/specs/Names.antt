-- Names where they are declared, changed or tested.
use Rattle.std.specs.Prelude.{◌≡◌, ℕ, List, [], ◌∷◌}
use Rattle.sa_lexer.specs.declared.token.TokenKind.TheVariants.{Lower}
use Rattle.sa_lexer.specs.declared.sign.Sign.TheVariants as sign
use Rattle.sa_ast.specs.declared.stmt.Local.{Local}
use Rattle.sa_parser_expr.specs.declared.tokens.Tokens.{Tokens}
use Rattle.sa_parser_expr.specs.Lexemes.{Lexeme, IsSign, name_of}
use Rattle.sa_parser_expr.specs.Positions.{bytes_at, start_at}

-- the token at an index, as a name
abbrev pub name_at : Tokens → ℕ → Local
name_at t at = record {
  name = bytes_at t.src.now t.list.now at;
  pos = record { file = t.file; at = start_at t.src.now t.list.now at };
}

-- LNAME
abbrev pub IsLower : Lexeme → Type 0
IsLower l = l.kind ≡ Lower

-- a token of such a kind, as a name
pub data IsName (P : Lexeme → Type 0) : List Lexeme → Local → Type 0 where
  one_name : {l : Lexeme} → P l → IsName P (l ∷ []) (name_of l)

-- {"," LNAME}
pub data IsMoreNames : List Lexeme → List Local → Type 0 where
  no_more_names : IsMoreNames [] []
  more_names : {comma l : Lexeme} {ls : List Lexeme} {names : List Local} → IsSign sign.Comma comma → IsLower l → IsMoreNames ls names
      → IsMoreNames (comma ∷ l ∷ ls) (name_of l ∷ names)

-- LNAME {"," LNAME}
pub data IsNames : List Lexeme → List Local → Type 0 where
  all_names : {l : Lexeme} {ls : List Lexeme} {others : List Local} → IsLower l → IsMoreNames ls others
      → IsNames (l ∷ ls) (name_of l ∷ others)
