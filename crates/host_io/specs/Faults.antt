-- How often an object of the host has failed.
use Rattle.std.specs.Prelude.{◌≡◌, ℕ, ◌+◌, ◌-◌, ◌<◌, ◌^◌, ◌⊎◌, min}

-- the last number that a count shows: there it saturates
abbrev pub last_count : ℕ
last_count = 2 ^ 64 - 1

abbrev pub one_more : ℕ → ℕ
one_more n = min (n + 1) last_count

-- a fault came between the two counts, or may have come if the count is saturated
abbrev pub Rose : ℕ → ℕ → Type 0
Rose before after = (before < after) ⊎ (after ≡ last_count)
