-- What a call does to a pool.
use Rattle.std.specs.Prelude.{◌≡◌, ℕ, ◌+◌, ◌*◌, ◌<◌, ◌∷◌, length, slice_index, Contains}
use Rattle.std.specs.List.Sorted.{IsPermutation}
use Rattle.sa_pool.specs.Slots.{Slots}

-- a slot that is free before is live after, and every other one is what it was
pub record GoesLive (before after : Slots) (slot : ℕ) : Type 0 where
  pub free : IsPermutation before.free (slot ∷ after.free)
  pub live : IsPermutation (slot ∷ before.live) after.live

-- the memory has as many words as before, slots are as large, and each slot that is live before and after has its words
pub record KeepsLive (before after : Slots) : Type 0 where
  pub len : length after.words ≡ length before.words
  pub slot_words : after.slot_words ≡ before.slot_words
  pub words : (slot at : ℕ) → Contains before.live slot → Contains after.live slot → at < before.slot_words
      → slice_index after.words (slot * before.slot_words + 1 + at) ≡ slice_index before.words (slot * before.slot_words + 1 + at)
