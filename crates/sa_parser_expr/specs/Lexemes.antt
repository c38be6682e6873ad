-- What the grammar reads of a file's tokens.
use Rattle.std.specs.Prelude.{◌≡◌, ℕ, List, Some, map, slice_range}
use Rattle.sa_lexer.specs.declared.token.Token.{Token}
use Rattle.sa_lexer.specs.declared.token.TokenKind.{TokenKind}
use Rattle.sa_lexer.specs.declared.token.TokenKind.TheVariants as token
use Rattle.sa_lexer.specs.declared.sign.Sign.{Sign}
use Rattle.sa_lexer.specs.declared.word.Word.{Word}
use Rattle.sa_ast.specs.declared.pos.Pos.{Pos}
use Rattle.sa_ast.specs.declared.stmt.Local.{Local}
use Rattle.sa_parser_expr.specs.declared.tokens.Tokens.{Tokens}
use Rattle.sa_parser_expr.specs.Positions.{bytes_at, kind_at, start_at}

-- a token by its kind, its bytes and the position of its first byte
pub record Lexeme : Type 0 where
  pub kind : TokenKind
  pub bytes : List ℕ
  pub pos : Pos

-- the tokens of a file's text as lexemes
abbrev pub lexemes_of : ℕ → List ℕ → List Token → List Lexeme
lexemes_of file text tokens =
    map
    (λ (token : Token). record {
      kind = token.kind;
      bytes = slice_range text token.start token.end;
      pos = record { file = file; at = token.start };
    })
    tokens

-- those of a file from an index up to another one
unfoldable pub between : Tokens → ℕ → ℕ → List Lexeme
between t from next = slice_range (lexemes_of t.file t.src.now t.list.now) from next

-- the token of this kind that is at an index
abbrev pub lexeme_at : Tokens → ℕ → TokenKind → Lexeme
lexeme_at t at kind = record {
  kind = kind;
  bytes = bytes_at t.src.now t.list.now at;
  pos = record { file = t.file; at = start_at t.src.now t.list.now at };
}

-- the name that a token is
abbrev pub name_of : Lexeme → Local
name_of l = record { name = l.bytes; pos = l.pos }

-- such a lexeme is at an index
pub record IsLexemeAt (P : Lexeme → Type 0) (t : Tokens) (at : ℕ) : Type 0 where
  pub kind : TokenKind
  pub there : kind_at t.list.now at ≡ Some kind
  pub is : P (lexeme_at t at kind)

-- this word
pub record IsWord (word : Word) (l : Lexeme) : Type 0 where
  pub kind : l.kind ≡ token.Word word

-- this sign
pub record IsSign (sign : Sign) (l : Lexeme) : Type 0 where
  pub kind : l.kind ≡ token.Sign sign

-- C: the name of a class, with or without a `$` at its front
pub data IsClass : Lexeme → Type 0 where
  class_name : {l : Lexeme} → l.kind ≡ token.ClassName → IsClass l
  abstract_name : {l : Lexeme} → l.kind ≡ token.AbstractName → IsClass l

-- F: the name of a feature, with or without a `!` at its end
pub data IsFeature : Lexeme → Type 0 where
  lower_name : {l : Lexeme} → l.kind ≡ token.Lower → IsFeature l
  iter_name : {l : Lexeme} → l.kind ≡ token.IterName → IsFeature l
