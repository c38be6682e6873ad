-- Slots that are known to be live.
use Rattle.std.specs.Prelude.{◌≡◌, ℕ, Bool, true, false, List, slice_index_or, Contains}

-- each slot with a flag is live
abbrev pub AreLive : List ℕ → List Bool → Type 0
AreLive live flags = (slot : ℕ) → slice_index_or flags slot false ≡ true → Contains live slot
