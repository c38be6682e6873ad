-- What a binary search finds in numbers that rise.
use Rattle.std.proofs.Common.{◌≡◌, ℕ, ◌<◌, ◌≤◌, ◌==◌, List, length, get_or, Some, None, Ok, Err, arith, eq-eqb, subst, sym, inl, inr}
use Rattle.std.specs.List.{position, position_or_len}
use Rattle.std.specs.List.Sorted.{IsBinarySearchResult}
use Rattle.std.specs.Ordering.{nat_cmp}
use Rattle.std.proofs.lemmas.Bool.{ne_eqb, lt-ltb, le-ltb, cond-true, cond-false, cases_eq, cases_lt}
use Rattle.std.proofs.lemmas.List.Sorted.{searched}
use Rattle.std.proofs.lemmas.List.Sums.{position_or_len_is}
use Rattle.sa_dispatch.specs.Rising.{IsRising}

rises : (xs : List ℕ) → IsRising xs → (i j : ℕ) → i ≤ j → j < length xs → get_or xs i 0 ≤ get_or xs j 0
rises xs rising i j h below = elim (cases_eq i j) [ inl e ↦ subst (λ k. get_or xs i 0 ≤ get_or xs k 0) e (omega arith) | inr e ↦ let less : get_or xs i 0 < get_or xs j 0 = rising i j (omega arith) below in omega arith ]

place_at : (xs : List ℕ) (x i : ℕ) → IsRising xs → i < length xs → get_or xs i 0 ≡ x → position (λ t. t == x) xs ≡ Some i
place_at xs x i rising below e =
    let at : position_or_len (λ t. t == x) xs ≡ i =
    position_or_len_is (λ t. t == x) xs i 0 (omega arith)
    (λ k h. let less : get_or xs k 0 < get_or xs i 0 = rising k i h below in ne_eqb (get_or xs k 0) x (omega arith))
    (λ _. eq-eqb (get_or xs i 0) x e) in
    rw at (cond-true _ _ _ (lt-ltb i (length xs) below))

no_place : (xs : List ℕ) (x i : ℕ) → ((k : ℕ) → k < i → get_or xs k 0 < x) → ((k : ℕ) → i ≤ k → k < length xs → x < get_or xs k 0) → position (λ t. t == x) xs ≡ None
no_place xs x i before following =
    let at : position_or_len (λ t. t == x) xs ≡ length xs =
    position_or_len_is (λ t. t == x) xs (length xs) 0 (omega arith)
    (λ k h. elim (cases_lt k i) [
      | inl e ↦ let less : get_or xs k 0 < x = before k e in ne_eqb (get_or xs k 0) x (omega arith)
      | inr e ↦ let more : x < get_or xs k 0 = following k e h in ne_eqb (get_or xs k 0) x (omega arith)
    ])
    (λ h. absurd (omega arith)) in
    rw at (cond-false _ _ _ (le-ltb (length xs) (length xs) (omega arith)))

pub found : (xs : List ℕ) (x i : ℕ) → IsRising xs → IsBinarySearchResult (λ y. nat_cmp y x) xs (Ok i) → Some i ≡ position (λ t. t == x) xs
found xs x i rising result =
    let at : (i < length xs) × (get_or xs i 0 ≡ x) = searched xs x (Ok i) result (rises xs rising) in
    sym (place_at xs x i rising at.0 at.1)

pub not_found : (xs : List ℕ) (x i : ℕ) → IsRising xs → IsBinarySearchResult (λ y. nat_cmp y x) xs (Err i) → None ≡ position (λ t. t == x) xs
not_found xs x i rising result =
    let at : (i ≤ length xs) × ((k : ℕ) → k < i → get_or xs k 0 < x) × ((k : ℕ) → i ≤ k → k < length xs → x < get_or xs k 0) = searched xs x (Err i) result (rises xs rising) in
    sym (no_place xs x i at.1 at.2)
