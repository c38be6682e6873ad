-- The chain of a memory, and which words it depends on.
use Rattle.std.proofs.Common.{◌≡◌, ◌≢◌, ℕ, zero, suc, ◌+◌, ◌-◌, ◌*◌, ◌<◌, ◌≤◌, true, false, eqb, inl, inr, List, [], ◌∷◌, ◌++◌, length, length-append, refl, sym, ap, subst, ◌∙◌, arith}
use Rattle.std.specs.Prelude.{slice_index}
use Rattle.std.proofs.lemmas.Bool.{cases_order, both_ways, eq-eqb, or_left, or_right, or_cases}
use Rattle.std.proofs.lemmas.Nat.{mul-le}
use Rattle.sa_pool.specs.Numbers.{is_in, numbers_from, AreApartBelow, others_below}
use Rattle.sa_pool.specs.Chain.{chain, start_of, EndsAfter, free_by, IsPoolBy}
use Rattle.sa_pool.proofs.Division.{length-numbers, length-others}

-- ---- the words of slots

-- a slot has no word in common with another one
pub words-apart : (slot other slot_words at : ℕ) → slot ≢ other → at < slot_words → slot * slot_words + 1 + at ≢ other * slot_words + 1
words-apart slot other slot_words at differ within same =
    elim (cases_order slot other) [
      | inl equal ↦ differ equal
      | inr order ↦
          elim order [
            | inl before ↦
                let above = mul-le (slot + 1) slot_words other slot_words (omega arith) (omega arith) in
                omega (arith, above)
            | inr after ↦
                let above = mul-le (other + 1) slot_words slot slot_words (omega arith) (omega arith) in
                omega (arith, above)
          ]
    ]

-- each slot is inside the memory
pub start-below : (slot slot_words len : ℕ) → slot < 10000 → 0 < slot_words → 10000 * slot_words + 1 ≤ len → slot * slot_words + 1 < len
start-below slot slot_words len below some room =
    let above = mul-le (slot + 1) slot_words 10000 slot_words (omega arith) (omega arith) in
    omega (arith, above)

-- ---- the chain depends on the links of its own slots alone

pub chain-same : (words after : List ℕ) (slot_words link count : ℕ) → ((slot : ℕ) → is_in (chain words slot_words link count) slot ≡ true → slice_index after (start_of slot_words slot) ≡ slice_index words (start_of slot_words slot)) → chain after slot_words link count ≡ chain words slot_words link count
chain-same words after slot_words link zero same = refl
chain-same words after slot_words link (suc count) same =
    let next = slice_index words (start_of slot_words (link - 1)) in
    let first : slice_index after (start_of slot_words (link - 1)) ≡ next = same (link - 1) (or_left _ _ (eq-eqb (link - 1) (link - 1) refl)) in
    let rest : chain after slot_words next count ≡ chain words slot_words next count = chain-same words after slot_words next count (λ slot h. same slot (or_right _ _ h)) in
    ap (λ (n : ℕ). (link - 1) ∷ chain after slot_words n count) first ∙ ap (λ (xs : List ℕ). (link - 1) ∷ xs) rest

pub ends-same : (words after : List ℕ) (slot_words link count : ℕ) → ((slot : ℕ) → is_in (chain words slot_words link count) slot ≡ true → slice_index after (start_of slot_words slot) ≡ slice_index words (start_of slot_words slot)) → EndsAfter words slot_words link count → EndsAfter after slot_words link count
ends-same words after slot_words link zero same ends = ends
ends-same words after slot_words link (suc count) same ends =
    let next = slice_index words (start_of slot_words (link - 1)) in
    let first : slice_index after (start_of slot_words (link - 1)) ≡ next = same (link - 1) (or_left _ _ (eq-eqb (link - 1) (link - 1) refl)) in
    let rest : EndsAfter after slot_words next count = ends-same words after slot_words next count (λ slot h. same slot (or_right _ _ h)) ends.1 in
    (ends.0, subst (λ (n : ℕ). EndsAfter after slot_words n count) (sym first) rest)

-- ---- what a head says of the chain

pub length-chain : (words : List ℕ) (slot_words link count : ℕ) → length (chain words slot_words link count) ≡ count
length-chain words slot_words link zero = refl
length-chain words slot_words link (suc count) = ap suc (length-chain words slot_words (slice_index words (start_of slot_words (link - 1))) count)

-- a link that isn't 0 is that of a slot
pub some-linked : (words : List ℕ) (slot_words link count : ℕ) → EndsAfter words slot_words link count → 0 < link → (rest : ℕ) × (count ≡ suc rest)
some-linked words slot_words link zero ends more = absurd (omega arith)
some-linked words slot_words link (suc count) ends more = (count, refl)

pub none-linked : (words : List ℕ) (slot_words link count : ℕ) → EndsAfter words slot_words link count → link ≡ 0 → count ≡ 0
none-linked words slot_words link zero ends none = refl
none-linked words slot_words link (suc count) ends none = let more = ends.0 in absurd (omega arith)

is_in-front : (xs ys : List ℕ) (n : ℕ) → is_in xs n ≡ true → is_in (xs ++ ys) n ≡ true
is_in-front [] ys n among = absurd (both_ways false refl among)
is_in-front (x ∷ xs) ys n among =
    elim (or_cases (eqb x n) (is_in xs n) among) [
      | inl here ↦ or_left (eqb x n) (is_in (xs ++ ys) n) here
      | inr later ↦ or_right (eqb x n) (is_in (xs ++ ys) n) (is_in-front xs ys n later)
    ]

link-below : (words : List ℕ) (slot_words link count bound : ℕ) (others : List ℕ) → EndsAfter words slot_words link count → AreApartBelow bound (chain words slot_words link count ++ others) → link ≤ bound
link-below words slot_words link zero bound others ends apart = omega arith
link-below words slot_words link (suc count) bound others ends apart = let below = apart.0 in omega arith

pub top-below : (words : List ℕ) (slot_words used top live : ℕ) → IsPoolBy words slot_words used top live → top ≤ 10000
unfolding free_by
top-below words slot_words used top live pool =
    link-below words slot_words top (used - live) 10000 (numbers_from used (10000 - used)) pool.ends pool.apart

-- the head's count is that of the live slots
pub length-live : (words : List ℕ) (slot_words used top live : ℕ) → IsPoolBy words slot_words used top live → length (others_below 10000 (free_by words slot_words used top live)) ≡ live
unfolding free_by
length-live words slot_words used top live pool =
    let all = length-others 10000 (free_by words slot_words used top live) pool.apart in
    let joined = length-append (chain words slot_words top (used - live)) (numbers_from used (10000 - used)) in
    let linked = length-chain words slot_words top (used - live) in
    let fresh = length-numbers used (10000 - used) in
    let few = pool.few in
    let fewer = pool.fewer in
    omega (arith, all, joined, linked, fresh)

-- a slot of the chain isn't one that isn't free
pub linked-other : (words : List ℕ) (slot_words used top live slot : ℕ) → is_in (free_by words slot_words used top live) slot ≡ false → (linked : ℕ) → is_in (chain words slot_words top (used - live)) linked ≡ true → linked ≢ slot
unfolding free_by
linked-other words slot_words used top live slot unfree linked among same =
    let P : ℕ → Type 0 = λ n. is_in (chain words slot_words top (used - live)) n ≡ true in
    both_ways _ unfree (is_in-front _ _ slot (subst P same among))
