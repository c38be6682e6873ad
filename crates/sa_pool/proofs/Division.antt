-- The numbers less than a bound, as those in a list and the others.
use Rattle.std.proofs.Common.{◌≡◌, ◌≢◌, ℕ, zero, suc, ◌+◌, ◌<◌, ◌≤◌, Bool, true, false, not, ◌||◌, inl, inr, List, [], ◌∷◌, ◌++◌, length, length-append, refl, sym, ap, ◌∙◌, arith}
use Rattle.std.specs.List.{All, Contains, filter}
use Rattle.std.specs.List.Sorted.{IsPermutation}
use Rattle.std.proofs.lemmas.Bool.{cases_eq, cases_Bool, eq-eqb, ne_eqb, not-true, not_from_true, not_from_false, or_from, or_left}
use Rattle.std.proofs.lemmas.List.Elements.{All-nil, All-cons, All-contains, All-filter, filter_passes}
use Rattle.std.proofs.lemmas.List.Sorted.{IsPermutation-refl, IsPermutation-sym, IsPermutation-cons, IsPermutation-middle, IsPermutation-trans, IsPermutation-append_right, length_permutation}
use Rattle.sa_pool.specs.Numbers.{numbers_from, is_in, AreApartBelow, others_below}

-- ---- consecutive numbers

-- two tests that agree from a number on keep the same
filter-from : (p q : ℕ → Bool) (first count : ℕ) → ((n : ℕ) → first ≤ n → p n ≡ q n) → filter p (numbers_from first count) ≡ filter q (numbers_from first count)
unfolding numbers_from
filter-from p q first zero same = refl
filter-from p q first (suc count) same =
    let rest = filter-from p q (first + 1) count (λ n above. same n (omega arith)) in
    rw (same first (omega arith), rest) refl

-- a test that one number fails more keeps the others
filter-less : (p q : ℕ → Bool) (s first count : ℕ) → first ≤ s → s < first + count → p s ≡ true → q s ≡ false → ((n : ℕ) → n ≢ s → p n ≡ q n) → IsPermutation (filter p (numbers_from first count)) (s ∷ filter q (numbers_from first count))
unfolding numbers_from
filter-less p q s first zero from below passes fails same = absurd (omega arith)
filter-less p q s first (suc count) from below passes fails same =
    elim (cases_eq first s) [
      | inl here ↦
          let rest = filter-from p q (first + 1) count (λ n above. same n (λ e. omega arith)) in
          let passed : p first ≡ true = rw here passes in
          let failed : q first ≡ false = rw here fails in
          rw (passed, failed, rest, here) (IsPermutation-refl _)
      | inr other ↦
          let rest = filter-less p q s (first + 1) count (omega arith) (omega arith) passes fails same in
          elim (cases_Bool (q first)) [
            | inl kept ↦
                rw (same first other, kept)
                (IsPermutation-trans _ _ _ (IsPermutation-cons first _ _ rest) (IsPermutation-middle (first ∷ []) s _))
            | inr dropped ↦ rw (same first other, dropped) rest
          ]
    ]

filter-all : (first count : ℕ) → filter (λ n. true) (numbers_from first count) ≡ numbers_from first count
unfolding numbers_from
filter-all first zero = refl
filter-all first (suc count) = ap (λ (xs : List ℕ). first ∷ xs) (filter-all (first + 1) count)

below-numbers : (first count bound : ℕ) → first + count ≤ bound → All (λ n. n < bound) (numbers_from first count)
unfolding numbers_from
below-numbers first zero bound h = All-nil (λ n. n < bound)
below-numbers first (suc count) bound h =
    All-cons (λ n. n < bound) first _ (omega arith) (below-numbers (first + 1) count bound (omega arith))

is_in-numbers : (first count n : ℕ) → n < first → is_in (numbers_from first count) n ≡ false
unfolding numbers_from
is_in-numbers first zero n h = refl
is_in-numbers first (suc count) n h =
    or_from _ _ (ne_eqb first n (λ e. omega arith)) (is_in-numbers (first + 1) count n (omega arith))

pub length-numbers : (first count : ℕ) → length (numbers_from first count) ≡ count
unfolding numbers_from
length-numbers first zero = refl
length-numbers first (suc count) = ap suc (length-numbers (first + 1) count)

pub apart-numbers : (first count bound : ℕ) → first + count ≤ bound → AreApartBelow bound (numbers_from first count)
unfolding numbers_from
apart-numbers first zero bound h = tt
apart-numbers first (suc count) bound h =
    (omega arith, is_in-numbers (first + 1) count first (omega arith), apart-numbers (first + 1) count bound (omega arith))

-- ---- the others

-- one number more in the list is one less of the others
pub others-cons : (bound : ℕ) (xs : List ℕ) (s : ℕ) → s < bound → is_in xs s ≡ false → IsPermutation (others_below bound xs) (s ∷ others_below bound (s ∷ xs))
unfolding others_below
others-cons bound xs s below new =
    filter-less (λ n. not (is_in xs n)) (λ n. not (is_in (s ∷ xs) n)) s 0 bound (omega arith) (omega arith)
    (not_from_false _ new)
    (not_from_true _ (or_left _ _ (eq-eqb s s refl)))
    (λ n other. ap (λ (b : Bool). not (b || is_in xs n)) (sym (ne_eqb s n (λ e. other (sym e)))))

-- together they are all numbers less than the bound, each once
pub append-others : (bound : ℕ) (xs : List ℕ) → AreApartBelow bound xs → IsPermutation (xs ++ others_below bound xs) (numbers_from 0 bound)
unfolding others_below
append-others bound [] apart = rw (filter-all 0 bound) (IsPermutation-refl _)
append-others bound (s ∷ xs) apart =
    let all = append-others bound xs apart.2 in
    let one = others-cons bound xs s apart.0 apart.1 in
    let front = IsPermutation-sym _ _ (IsPermutation-middle xs s (others_below bound (s ∷ xs))) in
    let back = IsPermutation-append_right xs _ _ (IsPermutation-sym _ _ one) in
    IsPermutation-trans _ _ _ front (IsPermutation-trans _ _ _ back all)

pub length-others : (bound : ℕ) (xs : List ℕ) → AreApartBelow bound xs → length xs + length (others_below bound xs) ≡ bound
length-others bound xs apart =
    sym (length-append xs (others_below bound xs)) ∙ sym (length_permutation _ _ (append-others bound xs apart)) ∙ length-numbers 0 bound

-- what one of the others is
pub contains-others : (bound : ℕ) (xs : List ℕ) (s : ℕ) → Contains (others_below bound xs) s → (s < bound) × (is_in xs s ≡ false)
unfolding others_below
contains-others bound xs s among =
    let small = All-contains (λ n. n < bound) _ s (All-filter (λ n. not (is_in xs n)) (λ n. n < bound) _ (below-numbers 0 bound bound (omega arith))) among in
    let passed = All-contains (λ n. not (is_in xs n) ≡ true) _ s (filter_passes (λ n. not (is_in xs n)) (numbers_from 0 bound)) among in
    (small, not-true _ passed)
