-- Words of memory: the number that bytes spell, and the memory in which they spell another one. A load and a store of the machine read and
-- write one word.
use Rattle.std.specs.Prelude.{ℕ, ◌+◌, ◌≤◌, ◌⊎◌, List, slice_range}
use Rattle.std.specs.Int.{Width, byte_len, from_le_bytes, to_le_bytes}
use Rattle.wa_syntax.specs.Numeric.{wrap}
use Rattle.wa_syntax.specs.Operations.{overwritten}

-- the word of this width at an address, the lowest byte first
abbrev pub word_at : Width → (memory : List ℕ) → (address : ℕ) → ℕ
word_at w memory address = from_le_bytes w (slice_range memory address (address + byte_len w))

-- the memory with the low bits of n as that word
abbrev pub with_word : Width → (memory : List ℕ) → (address n : ℕ) → List ℕ
with_word w memory address n = overwritten memory address (to_le_bytes w (wrap w n))

-- k bytes from a on and l bytes from b on have none in common
abbrev pub AreApart : (a k b l : ℕ) → Type 0
AreApart a k b l = (a + k ≤ b) ⊎ (b + l ≤ a)
