-- Numbers that rise.
use Rattle.std.specs.Prelude.{ℕ, ◌<◌, List, length, slice_index}

-- each is less than those after it
abbrev pub IsRising : List ℕ → Type 0
IsRising numbers = (i j : ℕ) → i < j → j < length numbers → slice_index numbers i < slice_index numbers j
