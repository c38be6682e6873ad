-- The flags of live slots where one goes live and where one is given back.
use Rattle.std.proofs.Common.{◌≡◌, ℕ, zero, suc, ◌<◌, Bool, true, false, inl, inr, List, [], ◌∷◌, length, length-set, replicate, get_or, set, get_or-set_same, get_or-set_other, refl, sym, subst, ◌∙◌, arith}
use Rattle.std.specs.List.{Contains}
use Rattle.std.proofs.lemmas.Bool.{cases_eq, cases_lt, both_ways}
use Rattle.std.proofs.lemmas.List.{get_or_past}
use Rattle.std.proofs.lemmas.List.Elements.{Contains-get_or, Contains-append_right, Contains-append_cases}
use Rattle.std.proofs.lemmas.List.Sorted.{IsPermutation-sym, Contains-permutation}
use Rattle.sa_pool.specs.Slots.{Slots}
use Rattle.sa_pool.specs.Changes.{GoesLive}
use Rattle.test_slots.specs.Flags.{AreLive}

pub flag-taken : (before after : Slots) (flags : List Bool) (slot : ℕ) → GoesLive before after slot → AreLive before.live flags → AreLive after.live (set flags slot true)
flag-taken before after flags slot moved known k on =
    elim (cases_eq k slot) [
      | inl same ↦ subst (λ (n : ℕ). Contains after.live n) (sym same) (Contains-permutation (slot ∷ before.live) after.live slot moved.live (Contains-get_or (slot ∷ before.live) 0 slot (omega arith)))
      | inr other ↦
          Contains-permutation (slot ∷ before.live) after.live k moved.live
          (Contains-append_right (slot ∷ []) before.live k (known k (sym (get_or-set_other flags slot k true false other) ∙ on)))
    ]

only-element : (slot k place : ℕ) → place < 1 → get_or (slot ∷ []) place k ≡ k → k ≡ slot
only-element slot k zero within is = sym is
only-element slot k (suc place) within is = absurd (omega arith)

unset : (flags : List Bool) (slot : ℕ) → get_or (set flags slot false) slot false ≡ false
unset flags slot =
    elim (cases_lt slot (length flags)) [
      | inl within ↦ get_or-set_same flags slot false false within
      | inr past ↦ let long = length-set flags slot false in get_or_past (set flags slot false) slot false (omega (arith, long))
    ]

-- before is the pool once the slot is free
pub flag-given : (before after : Slots) (flags : List Bool) (slot : ℕ) → GoesLive before after slot → AreLive after.live flags → AreLive before.live (set flags slot false)
flag-given before after flags slot moved known k on =
    elim (cases_eq k slot) [
      | inl same ↦ absurd (both_ways _ (unset flags slot) (subst (λ (n : ℕ). get_or (set flags slot false) n false ≡ true) same on))
      | inr other ↦
          let was = known k (sym (get_or-set_other flags slot k false false other) ∙ on) in
          let among = Contains-permutation after.live (slot ∷ before.live) k (IsPermutation-sym _ _ moved.live) was in
          elim (Contains-append_cases (slot ∷ []) before.live k among) [
            | inl one ↦ absurd (other (only-element slot k one.0 one.1 one.2))
            | inr rest ↦ rest
          ]
    ]

-- where there are no flags, no slot has to be live
pub no-flag : (count slot : ℕ) → get_or (replicate count false) slot false ≡ false
no-flag zero slot = refl
no-flag (suc count) zero = refl
no-flag (suc count) (suc slot) = no-flag count slot
