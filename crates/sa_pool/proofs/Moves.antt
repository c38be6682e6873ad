-- What `take` and `give` make of a memory that is a pool, by what its head says before and after.
use Rattle.std.proofs.Common.{◌≡◌, ◌≢◌, ℕ, ◌+◌, ◌-◌, ◌*◌, ◌<◌, ◌≤◌, false, eqb, List, [], ◌∷◌, length, length-set, get_or-set_same, get_or-set_other, refl, sym, ap, subst, ◌∙◌, arith}
use Rattle.std.specs.Prelude.{slice_index, slice_set}
use Rattle.std.specs.List.{Contains}
use Rattle.std.specs.List.Sorted.{IsPermutation}
use Rattle.std.proofs.lemmas.Bool.{eqb-false, or_parts}
use Rattle.std.proofs.lemmas.List.Sorted.{IsPermutation-refl, IsPermutation-sym}
use Rattle.sa_pool.specs.Head.{used_of, top_of, live_of, Says}
use Rattle.sa_pool.specs.Numbers.{is_in, AreApartBelow, others_below}
use Rattle.sa_pool.specs.Slots.{Slots, AreAllSlots}
use Rattle.sa_pool.specs.Chain.{start_of, free_by, free_slots, slots_of, IsPoolBy, IsPool}
use Rattle.sa_pool.specs.Changes.{GoesLive, KeepsLive}
use Rattle.sa_pool.proofs.Division.{append-others, length-others, others-cons, contains-others}
use Rattle.sa_pool.proofs.ChainLemmas.{words-apart, top-below, length-live}
use Rattle.sa_pool.proofs.Steps.{new-pool, taken-from_chain, taken-anew, none-left, given-back}

-- ---- heads

-- a pool, by what its head says
pub pool-by : (words : List ℕ) (slot_words word used top live : ℕ) → word ≡ slice_index words 0 → Says word used top live → IsPool words slot_words → IsPoolBy words slot_words used top live
pool-by words slot_words word used top live read says pool =
    subst (λ (n : ℕ). IsPoolBy words slot_words n top live) (ap used_of (sym read) ∙ says.used_is)
    (subst (λ (n : ℕ). IsPoolBy words slot_words (used_of (slice_index words 0)) n live) (ap top_of (sym read) ∙ says.top_is)
    (subst (λ (n : ℕ). IsPoolBy words slot_words (used_of (slice_index words 0)) (top_of (slice_index words 0)) n) (ap live_of (sym read) ∙ says.live_is) pool))

pool-from : (words : List ℕ) (slot_words word used top live : ℕ) → slice_index words 0 ≡ word → Says word used top live → IsPoolBy words slot_words used top live → IsPool words slot_words
pool-from words slot_words word used top live read says pool =
    subst (λ (n : ℕ). IsPoolBy words slot_words n (top_of (slice_index words 0)) (live_of (slice_index words 0))) (sym (ap used_of read ∙ says.used_is))
    (subst (λ (n : ℕ). IsPoolBy words slot_words used n (live_of (slice_index words 0))) (sym (ap top_of read ∙ says.top_is))
    (subst (λ (n : ℕ). IsPoolBy words slot_words used top n) (sym (ap live_of read ∙ says.live_is)) pool))

free-by : (words : List ℕ) (slot_words word used top live : ℕ) → slice_index words 0 ≡ word → Says word used top live → free_slots words slot_words ≡ free_by words slot_words used top live
free-by words slot_words word used top live read says =
    ap (λ (n : ℕ). free_by words slot_words n (top_of (slice_index words 0)) (live_of (slice_index words 0))) (ap used_of read ∙ says.used_is)
    ∙ ap (λ (n : ℕ). free_by words slot_words used n (live_of (slice_index words 0))) (ap top_of read ∙ says.top_is)
    ∙ ap (λ (n : ℕ). free_by words slot_words used top n) (ap live_of read ∙ says.live_is)

head-written : (words after : List ℕ) (head : ℕ) → 0 < length words → after ≡ slice_set words 0 head → slice_index after 0 ≡ head
head-written words after head some written = ap (λ (ws : List ℕ). slice_index ws 0) written ∙ get_or-set_same words 0 head 0 some

-- ---- a pool

pub all-slots : (words : List ℕ) (slot_words : ℕ) → IsPool words slot_words → AreAllSlots (free_slots words slot_words) (others_below 10000 (free_slots words slot_words))
all-slots words slot_words pool = append-others 10000 (free_slots words slot_words) pool.apart

pub live-count : (words : List ℕ) (slot_words : ℕ) → IsPool words slot_words → length (slots_of words slot_words).live ≡ live_of (slice_index words 0)
live-count words slot_words pool =
    length-live words slot_words (used_of (slice_index words 0)) (top_of (slice_index words 0)) (live_of (slice_index words 0)) pool

-- ---- a slot that goes live

-- two memories that are pools: the slot is free in the first alone
pub record Moved (words after : List ℕ) (slot_words slot : ℕ) : Type 0 where
  pub before : IsPool words slot_words
  pub pool : IsPool after slot_words
  pub moved : free_slots words slot_words ≡ slot ∷ free_slots after slot_words

pub goes-live : (words after : List ℕ) (slot_words slot : ℕ) → Moved words after slot_words slot → GoesLive (slots_of words slot_words) (slots_of after slot_words) slot
goes-live words after slot_words slot m =
    let apart : AreApartBelow 10000 (slot ∷ free_slots after slot_words) = subst (λ (xs : List ℕ). AreApartBelow 10000 xs) m.moved m.before.apart in
    let one = others-cons 10000 (free_slots after slot_words) slot apart.0 apart.1 in
    record {
      free = subst (λ (xs : List ℕ). IsPermutation (free_slots words slot_words) xs) m.moved (IsPermutation-refl (free_slots words slot_words));
      live = subst (λ (xs : List ℕ). IsPermutation (slot ∷ others_below 10000 xs) (others_below 10000 (free_slots after slot_words))) (sym m.moved) (IsPermutation-sym _ _ one);
    }

-- not all slots were live
pub not-all-live : (words after : List ℕ) (slot_words slot : ℕ) → Moved words after slot_words slot → length (slots_of words slot_words).live ≡ 10000 → ⊥
not-all-live words after slot_words slot m full =
    let all = length-others 10000 (free_slots words slot_words) m.before.apart in
    let some = ap length m.moved in
    omega (arith, all, some, full)

-- ---- the calls

-- the memory of a new pool
pub made : (words after : List ℕ) (slot_words : ℕ) → 0 < slot_words → 10000 * slot_words + 1 ≤ length words → after ≡ slice_set words 0 0 → IsPool after slot_words
made words after slot_words some room written =
    let within : 10000 * slot_words + 1 ≤ length after = subst (λ (ws : List ℕ). 10000 * slot_words + 1 ≤ length ws) (sym written) (subst (λ (n : ℕ). 10000 * slot_words + 1 ≤ n) (sym (length-set words 0 0)) room) in
    pool-from after slot_words 0 0 0 0 (head-written words after 0 (omega arith) written) (record { used_is = refl; top_is = refl; live_is = refl }) (new-pool after slot_words some within)

no-element : (xs : List ℕ) → length xs ≡ 0 → xs ≡ []
no-element [] none = refl
no-element (x ∷ xs) none = absurd (omega arith)

pub none-live : (words after : List ℕ) (slot_words : ℕ) → 0 < slot_words → 10000 * slot_words + 1 ≤ length words → after ≡ slice_set words 0 0 → others_below 10000 (free_slots after slot_words) ≡ []
none-live words after slot_words some room written =
    let pool = made words after slot_words some room written in
    let head = head-written words after 0 (omega arith) written in
    let none : length (others_below 10000 (free_slots after slot_words)) ≡ 0 = live-count after slot_words pool ∙ ap live_of head in
    no-element _ none

-- the first slot of the chain is taken
pub take-chained : (words after : List ℕ) (slot_words word used top live start link head : ℕ) → word ≡ slice_index words 0 → Says word used top live → IsPool words slot_words → 0 < top → start ≡ start_of slot_words (top - 1) → link ≡ slice_index words start → after ≡ slice_set words 0 head → Says head used link (live + 1) → Moved words after slot_words (top - 1)
take-chained words after slot_words word used top live start link head read says pool more starts links written link_says =
    let next = slice_index words (start_of slot_words (top - 1)) in
    let by = pool-by words slot_words word used top live read says pool in
    let room = by.room in
    let step = taken-from_chain words slot_words used top live head by more in
    let linked : link ≡ next = links ∙ ap (λ (n : ℕ). slice_index words n) starts in
    let then_says : Says head used next (live + 1) = subst (λ (n : ℕ). Says head used n (live + 1)) linked link_says in
    let at_head = head-written words after head (omega arith) written in
    let after_by : IsPoolBy after slot_words used next (live + 1) = subst (λ (ws : List ℕ). IsPoolBy ws slot_words used next (live + 1)) (sym written) step.pool in
    record {
      before = pool;
      pool = pool-from after slot_words head used next (live + 1) at_head then_says after_by;
      moved =
          free-by words slot_words word used top live (sym read) says
          ∙ step.moved
          ∙ ap (λ (ws : List ℕ). (top - 1) ∷ free_by ws slot_words used next (live + 1)) (sym written)
          ∙ ap (λ (xs : List ℕ). (top - 1) ∷ xs) (sym (free-by after slot_words head used next (live + 1) at_head then_says));
    }

-- the link of the slot that is taken
pub next-below : (words : List ℕ) (slot_words word used top live start link : ℕ) → word ≡ slice_index words 0 → Says word used top live → IsPool words slot_words → 0 < top → start ≡ start_of slot_words (top - 1) → link ≡ slice_index words start → link ≤ 10000
next-below words slot_words word used top live start link read says pool more starts links =
    let linked : link ≡ slice_index words (start_of slot_words (top - 1)) = links ∙ ap (λ (n : ℕ). slice_index words n) starts in
    let by = pool-by words slot_words word used top live read says pool in
    let step = taken-from_chain words slot_words used top live 0 by more in
    let below = top-below (slice_set words 0 0) slot_words used (slice_index words (start_of slot_words (top - 1))) (live + 1) step.pool in
    subst (λ (n : ℕ). n ≤ 10000) (sym linked) below

-- a slot is taken that was never taken before
pub take-unused : (words after : List ℕ) (slot_words word used top live head : ℕ) → word ≡ slice_index words 0 → Says word used top live → IsPool words slot_words → top ≤ 0 → used ≢ 10000 → after ≡ slice_set words 0 head → Says head (used + 1) 0 (live + 1) → Moved words after slot_words used
take-unused words after slot_words word used top live head read says pool none left written then_says =
    let empty : Says word used 0 live = subst (λ (n : ℕ). Says word used n live) (omega arith) says in
    let by = pool-by words slot_words word used 0 live read empty pool in
    let few = by.few in
    let room = by.room in
    let step = taken-anew words slot_words used live head by (omega arith) in
    let at_head = head-written words after head (omega arith) written in
    let after_by : IsPoolBy after slot_words (used + 1) 0 (live + 1) = subst (λ (ws : List ℕ). IsPoolBy ws slot_words (used + 1) 0 (live + 1)) (sym written) step.pool in
    record {
      before = pool;
      pool = pool-from after slot_words head (used + 1) 0 (live + 1) at_head then_says after_by;
      moved =
          free-by words slot_words word used 0 live (sym read) empty
          ∙ step.moved
          ∙ ap (λ (ws : List ℕ). used ∷ free_by ws slot_words (used + 1) 0 (live + 1)) (sym written)
          ∙ ap (λ (xs : List ℕ). used ∷ xs) (sym (free-by after slot_words head (used + 1) 0 (live + 1) at_head then_says));
    }

-- no slot is left to be taken
pub all-live : (words : List ℕ) (slot_words word used top live : ℕ) → word ≡ slice_index words 0 → Says word used top live → IsPool words slot_words → top ≤ 0 → used ≡ 10000 → length (slots_of words slot_words).live ≡ 10000
all-live words slot_words word used top live read says pool none full =
    let empty : Says word 10000 0 live = subst (λ (n : ℕ). Says word n 0 live) full (subst (λ (n : ℕ). Says word used n live) (omega arith) says) in
    let by = pool-by words slot_words word 10000 0 live read empty pool in
    live-count words slot_words pool ∙ ap live_of (sym read) ∙ says.live_is ∙ none-left words slot_words live by

-- a slot that is live, by its number and by the head
pub live-slot : (words : List ℕ) (slot_words slot : ℕ) (seen : Slots) → IsPool words slot_words → slots_of words slot_words ≡ seen → Contains seen.live slot → (slot < 10000) × (is_in (free_slots words slot_words) slot ≡ false) × (0 < live_of (slice_index words 0))
live-slot words slot_words slot seen pool view_is contained =
    let among = subst (λ (v : Slots). Contains v.live slot) (sym view_is) contained in
    let other = contains-others 10000 (free_slots words slot_words) slot among in
    let count = live-count words slot_words pool in
    let place = among.1 in
    (other.0, other.1, omega (arith, count, place))

-- a slot is freed
pub give-back : (words linked after : List ℕ) (slot_words word used top live start stored head slot : ℕ) (seen : Slots) → word ≡ slice_index words 0 → Says word used top live → IsPool words slot_words → slots_of words slot_words ≡ seen → Contains seen.live slot → start ≡ start_of slot_words slot → stored ≡ top → linked ≡ slice_set words start stored → after ≡ slice_set linked 0 head → Says head used (slot + 1) (live - 1) → Moved after words slot_words slot
give-back words linked after slot_words word used top live start stored head slot seen read says pool view_is contained starts stores linking written then_says =
    let link : linked ≡ slice_set words (start_of slot_words slot) top = linking ∙ ap (λ (n : ℕ). slice_set words n stored) starts ∙ ap (λ (n : ℕ). slice_set words (start_of slot_words slot) n) stores in
    let by = pool-by words slot_words word used top live read says pool in
    let is_live = live-slot words slot_words slot seen pool view_is contained in
    let unfree : is_in (free_by words slot_words used top live) slot ≡ false = subst (λ (xs : List ℕ). is_in xs slot ≡ false) (free-by words slot_words word used top live (sym read) says) is_live.1 in
    let more : 0 < live = subst (λ (n : ℕ). 0 < n) (ap live_of (sym read) ∙ says.live_is) is_live.2 in
    let both : after ≡ slice_set (slice_set words (start_of slot_words slot) top) 0 head = written ∙ ap (λ (ws : List ℕ). slice_set ws 0 head) link in
    let step = given-back words slot_words used top live head slot by more is_live.0 unfree in
    let room = by.room in
    let as_long : length linked ≡ length words = ap length link ∙ length-set words (start_of slot_words slot) top in
    let at_head = head-written linked after head (omega arith) written in
    let after_by : IsPoolBy after slot_words used (slot + 1) (live - 1) = subst (λ (ws : List ℕ). IsPoolBy ws slot_words used (slot + 1) (live - 1)) (sym both) step.pool in
    record {
      before = pool-from after slot_words head used (slot + 1) (live - 1) at_head then_says after_by;
      pool = pool;
      moved =
          free-by after slot_words head used (slot + 1) (live - 1) at_head then_says
          ∙ ap (λ (ws : List ℕ). free_by ws slot_words used (slot + 1) (live - 1)) both
          ∙ step.moved
          ∙ ap (λ (xs : List ℕ). slot ∷ xs) (sym (free-by words slot_words word used top live (sym read) says));
    }

-- the other live slots keep their words where one is freed
pub give-keeps : (words linked after : List ℕ) (slot_words start stored head slot : ℕ) → Moved after words slot_words slot → start ≡ start_of slot_words slot → linked ≡ slice_set words start stored → after ≡ slice_set linked 0 head → KeepsLive (slots_of words slot_words) (slots_of after slot_words)
give-keeps words linked after slot_words start stored head slot m starts linking written =
    let link : linked ≡ slice_set words (start_of slot_words slot) stored = linking ∙ ap (λ (n : ℕ). slice_set words n stored) starts in
    record {
      len = ap length written ∙ length-set linked 0 head ∙ ap length link ∙ length-set words (start_of slot_words slot) stored;
      slot_words = refl;
      words = λ other at before still within.
          let unfree : is_in (slot ∷ free_slots words slot_words) other ≡ false = subst (λ (xs : List ℕ). is_in xs other ≡ false) m.moved (contains-others 10000 (free_slots after slot_words) other still).1 in
          let differs : other ≢ slot = λ e. eqb-false slot other (or_parts (eqb slot other) (is_in (free_slots words slot_words) other) unfree).0 (sym e) in
          ap (λ (ws : List ℕ). slice_index ws (other * slot_words + 1 + at)) written
          ∙ get_or-set_other linked 0 (other * slot_words + 1 + at) head 0 (λ e. omega arith)
          ∙ ap (λ (ws : List ℕ). slice_index ws (other * slot_words + 1 + at)) link
          ∙ get_or-set_other words (start_of slot_words slot) (other * slot_words + 1 + at) stored 0 (words-apart other slot slot_words at differs within);
    }
