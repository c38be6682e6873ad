-- When a call reads words and lines.
use Rattle.std.specs.Prelude.{◌≡◌, ◌≢◌, ◌⊎◌, ℕ, List, [], ◌∷◌, ◌++◌, ⊤, take, drop, map, codes, ◌==◌}
use Rattle.std.specs.Prelude.{Option, Result, MatchOption, MatchResult}
use Rattle.std.specs.List.{AllByRecursion, count_by, slice_split}
use denote.Ref.{Bor}
use Rattle.wa_syntax.specs.declared.instr.Instr.{Instr}
use Rattle.wa_syntax.specs.declared.instr.Instr.TheVariants as variant
use Rattle.wa_syntax.specs.declared.module.ValTy.{ValTy}
use Rattle.wa_text.specs.declared.fault.LineFault.{LineFault}
use Rattle.wa_text.specs.declared.fault.LineFault.TheVariants as line_fault
use Rattle.wa_text.specs.declared.fault.TextFault.{TextFault}
use Rattle.wa_text.specs.declared.fault.TextFault.TheVariants as text_fault
use Rattle.wa_text.specs.declared.reader.instruction.BlockKind.{BlockKind}
use Rattle.wa_text.specs.declared.reader.instruction.BlockKind.TheVariants as kind
use Rattle.wa_text.specs.declared.reader.instruction.FirstLine.{FirstLine}
use Rattle.wa_text.specs.declared.reader.instruction.FirstLine.TheVariants as first
use Rattle.wa_text.specs.Forms.{Form, ◌then◌, exactly}
use Rattle.wa_text.specs.Instructions.{block_result, else_end, end, instr}
use Rattle.wa_text.specs.Words.{Word, Line, AreLines, line, text_of, u32, val, word}

-- ---- words

-- the words that references show
abbrev pub texts : List (Bor (List ℕ)) → List Word
texts words = map (λ w. w.now) words

-- the words are those of no value, unless memory ran out
abbrev pub Refuses : {V : Type 0} → (V → Form Word) → Line → LineFault → Type 0
Refuses {V = V} F words line_fault.Wrong = (v : V) → F v words → ⊥
Refuses F words line_fault.NoMemory = ⊤

-- a call reads the value that words denote: what is read is written so, and `Wrong` says that nothing is
abbrev pub Reads : {V : Type 0} → (V → Form Word) → Line → Result V LineFault → Type 0
Reads F words result = MatchResult result (λ v. F v words) (Refuses F words)

-- the same for a call that takes no memory
abbrev pub Knows : {V : Type 0} → (V → Form Word) → Line → Option V → Type 0
Knows {V = V} F words result = MatchOption result ((v : V) → F v words → ⊥) (λ v. F v words)

-- whatever follows
abbrev pub anything : {X : Type 0} → Form X
anything xs = ⊤

-- words that begin with no type of a value
abbrev pub begins_untyped : Form Word
begins_untyped words = (ty : ValTy) → (val ty then anything) words → ⊥

-- ---- lines

-- the words of a line, which blanks part
abbrev pub words_of : List ℕ → Line
words_of line = slice_split (λ b. b == 32) line

-- no line feed is in it
abbrev pub IsUnbroken : List ℕ → Type 0
IsUnbroken line = AllByRecursion (λ b. b ≢ 10) line

-- the lines of a text by their words, up to its last line feed
abbrev pub rows : List ℕ → List Line
rows text = take (count_by (λ b. b == 10) text) (map words_of (slice_split (λ b. b == 10) text))

-- those from a position on
abbrev pub rows_at : List ℕ → ℕ → List Line
rows_at text at = rows (drop at text)

-- lines of the form go from one position of a text up to another
pub record Spelled (F : Form Line) (text : List ℕ) (from to : ℕ) : Type 0 where
  pub lines : List Line
  pub spelling : F lines
  pub are : AreLines lines
  pub is : drop from text ≡ text_of lines ++ drop to text
  pub rows_are : rows_at text from ≡ lines ++ rows_at text to

-- a line with this first word, and whatever lines after it
abbrev pub begins_with : Word → Form Line
begins_with w lines = (words : Line) × (more : List Line) × (lines ≡ (w ∷ words) ∷ more)

-- whatever lines with another beginning
abbrev pub begins_otherwise : Word → Form Line
begins_otherwise w lines = begins_with w lines → ⊥

-- the first line isn't this one
abbrev pub begins_not : Line → Form Line
begins_not words lines = (more : List Line) → lines ≢ words ∷ more

-- an `end` or an `else`, and whatever lines after it
abbrev pub halts : Form Line
halts lines = (more : List Line) × ((lines ≡ (codes "end" ∷ []) ∷ more) ⊎ (lines ≡ (codes "else" ∷ []) ∷ more))

-- what begins at a position is refused with the line at another: no lines that are those before it, and after
-- them begin with the same line, or end there as the text does, are of the form, with what may follow
pub record Refused {V : Type 0} (F : V → Form Line) (Follows : Form Line) (text : List ℕ) (from at : ℕ) : Type 0 where
  pub front : List Line
  pub passed : Spelled (exactly front) text from at
  pub never : (v : V) (more : List Line) → take 1 more ≡ take 1 (rows_at text at) → (F v then Follows) (front ++ more) → ⊥

-- so it is, unless memory ran out
abbrev pub RefusesAt : {V : Type 0} → (V → Form Line) → Form Line → List ℕ → ℕ → TextFault → Type 0
RefusesAt F Follows text from (text_fault.Wrong at) = Refused F Follows text from at
RefusesAt F Follows text from text_fault.NoMemory = ⊤

-- the word of an instruction that holds others
abbrev pub kind_word : BlockKind → Word
kind_word kind.Block = codes "block"
kind_word kind.Loop = codes "loop"
kind_word kind.If = codes "if"

-- an instruction that is one line, wherever it is
abbrev pub whole : Instr → Form Word
whole i words = (levels : ℕ) → instr levels i (words ∷ [])

-- an instruction of a word and a number
abbrev pub with_index : Instr → Word → ℕ → Type 0
with_index i w n = (words : Line) → u32 n words → whole i (w ∷ words)

-- the first line of an instruction
abbrev pub first_line : FirstLine → Form Word
first_line (first.Whole i) words = whole i words
first_line (first.Begin k t) words = (word (kind_word k) then block_result t) words

-- the lines of an instruction after the one that begins it: what it holds, by the form of its lists, and its end
abbrev pub following_first : BlockKind → Option ValTy → (List Instr → Form Line) → Instr → Form Line
following_first kind.Block t Body i lines = (body : List Instr) × (i ≡ variant.Block t body) × (Body body then end) lines
following_first kind.Loop t Body i lines = (body : List Instr) × (i ≡ variant.Loop t body) × (Body body then end) lines
following_first kind.If t Body i lines =
    (body : List Instr) × (branch : List Instr) × (i ≡ variant.If t (body, branch)) × (Body body then else_end Body branch) lines
