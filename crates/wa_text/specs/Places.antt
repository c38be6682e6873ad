-- Where what is read ends, and which lines are those of a text.
use Rattle.std.specs.Prelude.{◌≢◌, ℕ, zero, suc, ◌+◌, ◌<◌, ◌≤◌, ◌==◌, if◌then◌else◌, ⊤, List, [], ◌∷◌, length}
use Rattle.std.specs.List.{count_by}
use Rattle.wa_syntax.specs.declared.module.Module.{Module}
use Rattle.wa_text.specs.Listing.{IsListing}
use Rattle.wa_text.specs.declared.fault.ListFault.{ListFault}
use Rattle.wa_text.specs.declared.fault.ListFault.TheVariants as fault

-- what is read at the one position ends at the other, after it and within the text
abbrev pub EndsIn : List ℕ → ℕ → ℕ → Type 0
EndsIn text at end = (at < end) × (end ≤ length text)

-- the same for what may have no lines
abbrev pub ReachesIn : List ℕ → ℕ → ℕ → Type 0
ReachesIn text at end = (at ≤ end) × (end ≤ length text)

-- the number is that of a line of the text, from 1, or of the one after its last line feed
abbrev pub IsLineOf : List ℕ → ℕ → Type 0
IsLineOf text line = (1 ≤ line) × (line ≤ count_by (λ byte. byte == 10) text + 1)

-- so is the line that a refusal names
abbrev pub NamesLine : List ℕ → ListFault → Type 0
NamesLine text (fault.NotListing line) = IsLineOf text line
NamesLine text fault.NoMemory = ⊤

-- a text up to the line feed of so many lines, or as far as it goes
abbrev pub first_lines : ℕ → List ℕ → List ℕ
first_lines zero text = []
first_lines (suc n) [] = []
first_lines (suc n) (b ∷ text) = b ∷ first_lines (if b == 10 then n else suc n) text

-- the lines of a text up to this one begin no listing: none is the same up to there
abbrev pub BeginNone : List ℕ → ℕ → Type 0
BeginNone text line = (m : Module) (other : List ℕ) → IsListing other m → first_lines line other ≢ first_lines line text

-- so do those up to the line that a refusal names
abbrev pub NoneBegins : List ℕ → ListFault → Type 0
NoneBegins text (fault.NotListing line) = BeginNone text line
NoneBegins text fault.NoMemory = ⊤
