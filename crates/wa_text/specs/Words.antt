-- The words of a listing, the lines that they make, and the text that lines make.
use Rattle.std.specs.Prelude.{◌≡◌, ◌≢◌, ℕ, ◌^◌, ◌<◌, Bool, true, false, List, [], ◌∷◌, ◌++◌, flat_map, codes, decimal}
use Rattle.std.specs.List.{AllByRecursion, join_with_byte}
use Rattle.std.specs.Str.{IsUtf8}
use Rattle.hex.specs.Hex.{IsBytes, encode_lower}
use Rattle.wa_syntax.specs.declared.module.ValTy.{ValTy}
use Rattle.wa_syntax.specs.declared.module.ValTy.TheVariants.{I32, I64}
use Rattle.wa_text.specs.Forms.{Form}

-- a word is its bytes, and a line is its words
abbrev pub Word : Type 0
Word = List ℕ

abbrev pub Line : Type 0
Line = List Word

-- a word has no blank and no line feed in it
abbrev pub IsWord : Word → Type 0
IsWord w = AllByRecursion (λ b. (b ≢ 32) × (b ≢ 10)) w

abbrev pub AreLines : List Line → Type 0
AreLines lines = AllByRecursion (AllByRecursion IsWord) lines

-- ---- text

-- a line: its words, one blank between two, and a line feed after the last
abbrev pub line_text : Line → List ℕ
line_text words = join_with_byte 32 words ++ 10 ∷ []

abbrev pub text_of : List Line → List ℕ
text_of lines = flat_map line_text lines

-- ---- forms of words

-- this word
abbrev pub word : Word → Form Word
word w words = words ≡ w ∷ []

-- a number of so many bits: its decimal digits, without leading zeros
abbrev pub number : ℕ → ℕ → Form Word
number bits n words = (n < 2 ^ bits) × word (decimal n) words

abbrev pub u32 : ℕ → Form Word
u32 = number 32

abbrev pub u64 : ℕ → Form Word
u64 = number 64

-- the two lower-case hexadecimal digits of each byte, and a dash where there is none
abbrev pub digits : List ℕ → Word
digits [] = codes "-"
digits (b ∷ bs) = encode_lower (b ∷ bs)

abbrev pub bytes : List ℕ → Form Word
bytes bs words = IsBytes bs × word (digits bs) words

-- a name is a text in UTF-8
abbrev pub name : List ℕ → Form Word
name text words = IsUtf8 text × bytes text words

-- the type of a value
abbrev pub val : ValTy → Form Word
val I32 = word (codes "i32")
val I64 = word (codes "i64")

-- whether a global may be changed
abbrev pub mut : Bool → Form Word
mut false = word (codes "const")
mut true = word (codes "var")

-- ---- forms of lines

-- one line of such words
abbrev pub line : Form Word → Form Line
line F lines = (words : Line) × F words × (lines ≡ words ∷ [])
