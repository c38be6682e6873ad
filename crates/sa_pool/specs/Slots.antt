-- What contracts see of a pool.
use Rattle.std.specs.Prelude.{ℕ, List, ◌++◌}
use Rattle.std.specs.List.Sorted.{IsPermutation}
use Rattle.sa_pool.specs.Numbers.{numbers_from}

-- the free slots and the live ones by their numbers, how many words a slot has, and all words of the memory: the slots follow one another
-- after the first word
pub record Slots : Type 0 where
  pub free : List ℕ
  pub live : List ℕ
  pub slot_words : ℕ
  pub words : List ℕ

-- together the free slots and the live ones are the numbers from 0 to 9,999, each once
abbrev pub AreAllSlots : List ℕ → List ℕ → Type 0
AreAllSlots free live = IsPermutation (free ++ live) (numbers_from 0 10000)
