-- Where what is read ends.
use Rattle.std.specs.Prelude.{◌≡◌, ℕ, ◌<◌, ◌≤◌, List, length, take}

-- what is read at the one position ends at the other, after it and within the bytes
abbrev pub EndsIn : List ℕ → ℕ → ℕ → Type 0
EndsIn bytes at end = (at < end) × (end ≤ length bytes)

-- the same for what may have no bytes
abbrev pub ReachesIn : List ℕ → ℕ → ℕ → Type 0
ReachesIn bytes at end = (at ≤ end) × (end ≤ length bytes)

-- the bytes up to the end of some content, which starts at a position after the one at which it was read
pub record HoldsContent (bytes : List ℕ) (at : ℕ) (content : List ℕ) (start : ℕ) : Type 0 where
  pub following : at < start
  pub starts : start ≤ length content
  pub front : content ≡ take (length content) bytes
  pub within : length content ≤ length bytes
