-- The words of a memory as a pool. The first word of a free slot that was taken before is its link: one more than the next slot
-- of the chain, or 0 at the end of the chain.
use Rattle.std.specs.Prelude.{◌≡◌, ℕ, zero, suc, ◌+◌, ◌-◌, ◌*◌, ◌<◌, ◌≤◌, List, [], ◌∷◌, ◌++◌, length, slice_index}
use Rattle.sa_pool.specs.Head.{used_of, top_of, live_of}
use Rattle.sa_pool.specs.Numbers.{numbers_from, AreApartBelow, others_below}
use Rattle.sa_pool.specs.Slots.{Slots}

-- where a slot begins
abbrev pub start_of : ℕ → ℕ → ℕ
start_of slot_words slot = slot * slot_words + 1

-- so many slots of the chain that begins at a link
abbrev pub chain : List ℕ → ℕ → ℕ → ℕ → List ℕ
chain words slot_words link zero = []
chain words slot_words link (suc count) =
    (link - 1) ∷ chain words slot_words (slice_index words (start_of slot_words (link - 1))) count

-- the chain that begins at a link has so many slots
abbrev pub EndsAfter : List ℕ → ℕ → ℕ → ℕ → Type 0
EndsAfter words slot_words link zero = link ≡ 0
EndsAfter words slot_words link (suc count) =
    (0 < link) × EndsAfter words slot_words (slice_index words (start_of slot_words (link - 1))) count

-- the free slots, where a head says this: those of the chain, and those that were never taken
unfoldable pub free_by : List ℕ → ℕ → ℕ → ℕ → ℕ → List ℕ
free_by words slot_words used top live = chain words slot_words top (used - live) ++ numbers_from used (10000 - used)

-- the free slots of a memory
abbrev pub free_slots : List ℕ → ℕ → List ℕ
free_slots words slot_words =
    let head = slice_index words 0 in
    free_by words slot_words (used_of head) (top_of head) (live_of head)

-- the pool that a memory is
abbrev pub slots_of : List ℕ → ℕ → Slots
slots_of words slot_words = record {
  free = free_slots words slot_words;
  live = others_below 10000 (free_slots words slot_words);
  slot_words = slot_words;
  words = words;
}

-- a memory is a pool, where its head says this
pub record IsPoolBy (words : List ℕ) (slot_words used top live : ℕ) : Type 0 where
  pub some : 0 < slot_words
  pub room : 10000 * slot_words + 1 ≤ length words
  pub few : used ≤ 10000
  pub fewer : live ≤ used
  pub ends : EndsAfter words slot_words top (used - live)
  pub apart : AreApartBelow 10000 (free_by words slot_words used top live)

-- a memory is a pool
abbrev pub IsPool : List ℕ → ℕ → Type 0
IsPool words slot_words =
    let head = slice_index words 0 in
    IsPoolBy words slot_words (used_of head) (top_of head) (live_of head)
