-- What the first word of a pool's memory says, in 16 bits each.
use Rattle.std.specs.Prelude.{◌≡◌, ℕ, ◌/◌, ◌%◌, ◌^◌}

-- how many slots were ever taken: they are the first ones
abbrev pub used_of : ℕ → ℕ
used_of word = word % 2 ^ 16

-- one more than the first slot of the chain, or 0 where the chain is empty
abbrev pub top_of : ℕ → ℕ
top_of word = word / 2 ^ 16 % 2 ^ 16

-- how many slots are live
abbrev pub live_of : ℕ → ℕ
live_of word = word / 2 ^ 32 % 2 ^ 16

-- the word says this
pub record Says (word used top live : ℕ) : Type 0 where
  pub used_is : used_of word ≡ used
  pub top_is : top_of word ≡ top
  pub live_is : live_of word ≡ live
