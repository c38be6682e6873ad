-- What the writes of `take` and `give` make of a memory that is a pool.
use Rattle.std.proofs.Common.{◌≡◌, ℕ, suc, ◌+◌, ◌-◌, ◌*◌, ◌<◌, ◌≤◌, true, false, List, ◌∷◌, ◌++◌, length, length-set, get_or-set_same, get_or-set_other, refl, sym, ap, subst, ◌∙◌, arith}
use Rattle.std.specs.Prelude.{slice_index, slice_set}
use Rattle.sa_pool.specs.Numbers.{is_in, numbers_from, AreApartBelow}
use Rattle.sa_pool.specs.Chain.{chain, start_of, EndsAfter, free_by, IsPoolBy}
use Rattle.sa_pool.proofs.Division.{apart-numbers}
use Rattle.sa_pool.proofs.ChainLemmas.{words-apart, start-below, chain-same, ends-same, some-linked, none-linked, linked-other}

-- the pool after a step, and one slot that is free on one side alone
pub record Step (words : List ℕ) (slot_words used top live : ℕ) (slot : ℕ) (free : List ℕ) (all : List ℕ) : Type 0 where
  pub pool : IsPoolBy words slot_words used top live
  pub moved : all ≡ slot ∷ free

-- ---- what stays where the head is written

kept-behind_head : (words : List ℕ) (head slot_words slot : ℕ) → slice_index (slice_set words 0 head) (start_of slot_words slot) ≡ slice_index words (start_of slot_words slot)
kept-behind_head words head slot_words slot =
    get_or-set_other words 0 (start_of slot_words slot) head 0 (λ e. omega arith)

-- ---- a memory with the head 0

pub new-pool : (words : List ℕ) (slot_words : ℕ) → 0 < slot_words → 10000 * slot_words + 1 ≤ length words → IsPoolBy words slot_words 0 0 0
unfolding free_by
new-pool words slot_words some room = record {
  some = some;
  room = room;
  few = omega arith;
  fewer = omega arith;
  ends = refl;
  apart = apart-numbers 0 10000 10000 (omega arith);
}

-- ---- the first slot of the chain is taken

pub taken-from_chain : (words : List ℕ) (slot_words used top live head : ℕ) → IsPoolBy words slot_words used top live → 0 < top → Step (slice_set words 0 head) slot_words used (slice_index words (start_of slot_words (top - 1))) (live + 1) (top - 1) (free_by (slice_set words 0 head) slot_words used (slice_index words (start_of slot_words (top - 1))) (live + 1)) (free_by words slot_words used top live)
unfolding free_by
taken-from_chain words slot_words used top live head pool more =
    let next = slice_index words (start_of slot_words (top - 1)) in
    let after = slice_set words 0 head in
    let some_rest = some-linked words slot_words top (used - live) pool.ends more in
    let rest : ℕ = some_rest.0 in
    let count : used - live ≡ suc rest = some_rest.1 in
    let fewer : used - (live + 1) ≡ rest = omega arith in
    let ends : EndsAfter words slot_words top (suc rest) = subst (λ (n : ℕ). EndsAfter words slot_words top n) count pool.ends in
    let kept : chain after slot_words next rest ≡ chain words slot_words next rest = chain-same words after slot_words next rest (λ slot _. kept-behind_head words head slot_words slot) in
    let moved : free_by words slot_words used top live ≡ (top - 1) ∷ free_by after slot_words used next (live + 1) =
    ap (λ (n : ℕ). chain words slot_words top n ++ numbers_from used (10000 - used)) count
    ∙ ap (λ (xs : List ℕ). (top - 1) ∷ (xs ++ numbers_from used (10000 - used))) (sym kept)
    ∙ ap (λ (n : ℕ). (top - 1) ∷ (chain after slot_words next n ++ numbers_from used (10000 - used))) (sym fewer) in
    record {
      pool = record {
        some = pool.some;
        room = subst (λ (n : ℕ). 10000 * slot_words + 1 ≤ n) (sym (length-set words 0 head)) pool.room;
        few = pool.few;
        fewer = omega arith;
        ends = subst (λ (n : ℕ). EndsAfter after slot_words next n) (sym fewer) (ends-same words after slot_words next rest (λ slot _. kept-behind_head words head slot_words slot) ends.1);
        apart = (subst (λ (xs : List ℕ). AreApartBelow 10000 xs) moved pool.apart).2;
      };
      moved = moved;
    }

-- ---- a slot is taken that was never taken before

pub taken-anew : (words : List ℕ) (slot_words used live head : ℕ) → IsPoolBy words slot_words used 0 live → used < 10000 → Step (slice_set words 0 head) slot_words (used + 1) 0 (live + 1) used (free_by (slice_set words 0 head) slot_words (used + 1) 0 (live + 1)) (free_by words slot_words used 0 live)
unfolding free_by numbers_from
taken-anew words slot_words used live head pool below =
    let after = slice_set words 0 head in
    let none : used - live ≡ 0 = none-linked words slot_words 0 (used - live) pool.ends refl in
    let still : used + 1 - (live + 1) ≡ 0 = omega arith in
    let fresh : 10000 - used ≡ suc (10000 - (used + 1)) = omega arith in
    let moved : free_by words slot_words used 0 live ≡ used ∷ free_by after slot_words (used + 1) 0 (live + 1) =
    ap (λ (n : ℕ). chain words slot_words 0 n ++ numbers_from used (10000 - used)) none
    ∙ ap (λ (n : ℕ). numbers_from used n) fresh
    ∙ ap (λ (n : ℕ). used ∷ (chain after slot_words 0 n ++ numbers_from (used + 1) (10000 - (used + 1)))) (sym still) in
    let fewer = pool.fewer in
    record {
      pool = record {
        some = pool.some;
        room = subst (λ (n : ℕ). 10000 * slot_words + 1 ≤ n) (sym (length-set words 0 head)) pool.room;
        few = omega arith;
        fewer = omega arith;
        ends = subst (λ (n : ℕ). EndsAfter after slot_words 0 n) (sym still) refl;
        apart = (subst (λ (xs : List ℕ). AreApartBelow 10000 xs) moved pool.apart).2;
      };
      moved = moved;
    }

-- no slot is left
pub none-left : (words : List ℕ) (slot_words live : ℕ) → IsPoolBy words slot_words 10000 0 live → live ≡ 10000
none-left words slot_words live pool =
    let none = none-linked words slot_words 0 (10000 - live) pool.ends refl in
    let fewer = pool.fewer in
    omega arith

-- ---- a slot is freed

pub given-back : (words : List ℕ) (slot_words used top live head slot : ℕ) → IsPoolBy words slot_words used top live → 0 < live → slot < 10000 → is_in (free_by words slot_words used top live) slot ≡ false → Step (slice_set (slice_set words (start_of slot_words slot) top) 0 head) slot_words used (slot + 1) (live - 1) slot (free_by words slot_words used top live) (free_by (slice_set (slice_set words (start_of slot_words slot) top) 0 head) slot_words used (slot + 1) (live - 1))
unfolding free_by
given-back words slot_words used top live head slot pool more below unfree =
    let linked = slice_set words (start_of slot_words slot) top in
    let after = slice_set linked 0 head in
    let some = pool.some in
    let fewer = pool.fewer in
    let count : used - (live - 1) ≡ suc (used - live) = omega arith in
    let back : slot + 1 - 1 ≡ slot = omega arith in
    let within : start_of slot_words slot < length words = start-below slot slot_words (length words) below pool.some pool.room in
    let link : slice_index after (start_of slot_words slot) ≡ top = kept-behind_head linked head slot_words slot ∙ get_or-set_same words (start_of slot_words slot) top 0 within in
    let same : (other : ℕ) → is_in (chain words slot_words top (used - live)) other ≡ true → slice_index after (start_of slot_words other) ≡ slice_index words (start_of slot_words other) =
    λ other among.
    kept-behind_head linked head slot_words other
    ∙ get_or-set_other words (start_of slot_words slot) (start_of slot_words other) top 0
    (λ e. words-apart other slot slot_words 0 (linked-other words slot_words used top live slot unfree other among) pool.some (omega arith)) in
    let kept : chain after slot_words top (used - live) ≡ chain words slot_words top (used - live) = chain-same words after slot_words top (used - live) same in
    let at_slot : slice_index after (start_of slot_words (slot + 1 - 1)) ≡ top = ap (λ (n : ℕ). slice_index after (start_of slot_words n)) back ∙ link in
    let moved : free_by after slot_words used (slot + 1) (live - 1) ≡ slot ∷ free_by words slot_words used top live =
    ap (λ (n : ℕ). chain after slot_words (slot + 1) n ++ numbers_from used (10000 - used)) count
    ∙ ap (λ (n : ℕ). (slot + 1 - 1) ∷ (chain after slot_words n (used - live) ++ numbers_from used (10000 - used))) at_slot
    ∙ ap (λ (n : ℕ). n ∷ (chain after slot_words top (used - live) ++ numbers_from used (10000 - used))) back
    ∙ ap (λ (xs : List ℕ). slot ∷ (xs ++ numbers_from used (10000 - used))) kept in
    let ends : EndsAfter after slot_words top (used - live) = ends-same words after slot_words top (used - live) same pool.ends in
    let begins : EndsAfter after slot_words (slot + 1) (suc (used - live)) = (omega arith, subst (λ (n : ℕ). EndsAfter after slot_words n (used - live)) (sym at_slot) ends) in
    record {
      pool = record {
        some = pool.some;
        room = subst (λ (n : ℕ). 10000 * slot_words + 1 ≤ n) (sym (length-set linked 0 head ∙ length-set words (start_of slot_words slot) top)) pool.room;
        few = pool.few;
        fewer = omega arith;
        ends = subst (λ (n : ℕ). EndsAfter after slot_words (slot + 1) n) (sym count) begins;
        apart = subst (λ (xs : List ℕ). AreApartBelow 10000 xs) (sym moved) (below, unfree, pool.apart);
      };
      moved = moved;
    }
