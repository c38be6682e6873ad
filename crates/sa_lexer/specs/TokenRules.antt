-- Which bytes are a token of each kind, and which token is the longest at the front of a text. The rules are those of the language: they
-- say nothing of how a token is looked for.
use Rattle.std.specs.Prelude.{◌≡◌, ◌≢◌, ℕ, ◌^◌, ◌<◌, ◌≤◌, ◌⊎◌, Bool, false, ◌&&◌, List, [], ◌∷◌, ◌++◌, length, take, Some, IsTrue, codes}
use Rattle.std.specs.List.{list_all}
use Rattle.std.specs.Char.{is_ascii_alphabetic, is_digit}
use Rattle.sa_lexer.specs.declared.scan_result.ScannedToken.{ScannedToken}
use Rattle.sa_lexer.specs.declared.token.TokenKind.{TokenKind}
use Rattle.sa_lexer.specs.declared.token.TokenKind.TheVariants as token
use Rattle.sa_lexer.specs.declared.word.Word.{Word}
use Rattle.sa_lexer.specs.Bytes.{is_name_byte}
use Rattle.sa_lexer.specs.Literal.{named_escape}
use Rattle.sa_lexer.specs.Name.{has_lower}
use Rattle.sa_lexer.specs.Number.{begins_with_digit, is_digit_or_underscore, value_of}
use Rattle.sa_lexer.specs.Signs.{sign_text}
use Rattle.sa_lexer.specs.Words.{word_text}

-- ---- names

-- a letter, and letters, digits and `_` after it
abbrev pub is_name : List ℕ → Bool
is_name [] = false
is_name (b ∷ bs) = is_ascii_alphabetic b && list_all is_name_byte bs

-- a name with a lower-case letter, and one without
abbrev pub IsLowerName : List ℕ → Type 0
IsLowerName name = IsTrue (is_name name) × IsTrue (has_lower name)

abbrev pub IsUpperName : List ℕ → Type 0
IsUpperName name = IsTrue (is_name name) × (has_lower name ≡ false)

-- it is none of the language's words
abbrev pub IsNoWord : List ℕ → Type 0
IsNoWord name = (word : Word) → name ≢ word_text word

-- ---- numbers

-- a digit of the base, and digits and `_` after it
abbrev pub is_numeral : ℕ → List ℕ → Bool
is_numeral base [] = false
is_numeral base (d ∷ ds) = is_digit d base && list_all (is_digit_or_underscore base) ds

-- what comes before the digits of a base
pub data IsPrefix : ℕ → List ℕ → Type 0 where
  decimal : IsPrefix 10 []
  hexadecimal : IsPrefix 16 (codes "0x")
  octal : IsPrefix 8 (codes "0o")
  binary : IsPrefix 2 (codes "0b")

-- a number of this value
pub record IsNumber (value : ℕ) (bytes : List ℕ) : Type 0 where
  pub base : ℕ
  pub prefix : List ℕ
  pub digits : List ℕ
  pub prefixed : IsPrefix base prefix
  pub numeral : IsTrue (is_numeral base digits)
  pub spelled : bytes ≡ prefix ++ digits
  pub counted : value ≡ value_of base digits
  pub small : value < 2 ^ 31

-- ---- characters and texts

-- the byte denotes itself between two quotes
pub record IsPlain (quote byte : ℕ) : Type 0 where
  pub no_quote : byte ≢ quote
  pub no_escape : byte ≢ 0x5C
  pub no_line_feed : byte ≢ 0x0A

-- one to three octal digits, as many as are there, with these bytes after them
pub record IsOctal (digits following : List ℕ) : Type 0 where
  pub some : 0 < length digits
  pub few : length digits ≤ 3
  pub octal : IsTrue (list_all (λ d. is_digit d 8) digits)
  pub all : (length digits ≡ 3) ⊎ (begins_with_digit 8 following ≡ false)
  pub small : value_of 8 digits ≤ 255

-- the bytes between two quotes, and those that they denote
pub data Denotes (quote : ℕ) : List ℕ → List ℕ → Type 0 where
  nothing : Denotes quote [] []
  plain : {b : ℕ} {bs values : List ℕ} → IsPlain quote b → Denotes quote bs values → Denotes quote (b ∷ bs) (b ∷ values)
  named : {b value : ℕ} {bs values : List ℕ} → named_escape (b ∷ []) ≡ Some value → Denotes quote bs values
      → Denotes quote (0x5C ∷ b ∷ bs) (value ∷ values)
  numbered : {digits bs values : List ℕ} → IsOctal digits bs → Denotes quote bs values
      → Denotes quote (0x5C ∷ digits ++ bs) (value_of 8 digits ∷ values)

-- a literal between these quotes that denotes the bytes
pub record IsLiteral (quote : ℕ) (values bytes : List ℕ) : Type 0 where
  pub inside : List ℕ
  pub spelled : bytes ≡ quote ∷ inside ++ quote ∷ []
  pub denoted : Denotes quote inside values

-- ---- tokens

-- the bytes are a token of this kind
abbrev pub Matches : TokenKind → List ℕ → Type 0
Matches (token.Word word) bytes = bytes ≡ word_text word
Matches token.ClassName bytes = IsUpperName bytes × IsNoWord bytes
Matches token.AbstractName bytes = (name : List ℕ) × (bytes ≡ 0x24 ∷ name) × IsUpperName name
Matches token.Lower bytes = IsLowerName bytes × IsNoWord bytes
Matches token.IterName bytes = (name : List ℕ) × (bytes ≡ name ++ 0x21 ∷ []) × IsLowerName name
Matches (token.Int value) bytes = IsNumber value bytes
Matches (token.Char value) bytes = IsLiteral 0x27 (value ∷ []) bytes
Matches (token.Text values) bytes = IsLiteral 0x22 values bytes
Matches (token.Sign sign) bytes = bytes ≡ sign_text sign

-- the token is the longest at the front of the text: no prefix of the text that is a token, of whatever kind, has more bytes
pub record IsLongest (text : List ℕ) (found : ScannedToken) : Type 0 where
  pub in_text : found.len ≤ length text
  pub matches : Matches found.kind (take found.len text)
  pub longest : (kind : TokenKind) (len : ℕ) → len ≤ length text → Matches kind (take len text) → len ≤ found.len
