-- The element at an index of two lists that are joined.
use Rattle.std.proofs.Common.{◌≡◌, ℕ, zero, suc, ◌+◌, ◌-◌, ◌<◌, ◌≤◌, List, [], ◌∷◌, ◌++◌, Some, length, slice_get, sym, ap, ◌∙◌, arith}

module _ {A : Type 0} where
  pub first_part : (xs ys : List A) (i : ℕ) (x : A) → slice_get xs i ≡ Some x → slice_get (xs ++ ys) i ≡ Some x
  first_part [] ys i x h = cc
  first_part (y ∷ xs) ys zero x h = h
  first_part (y ∷ xs) ys (suc i) x h = first_part xs ys i x h

  following : (xs ys : List A) (i k : ℕ) → i ≡ length xs + k → slice_get (xs ++ ys) i ≡ slice_get ys k
  following [] ys i k e = let same : i ≡ k = omega (arith, e) in ap (slice_get ys) same
  following (x ∷ xs) ys zero k e = absurd (omega (arith, e))
  following (x ∷ xs) ys (suc i) k e = following xs ys i k (omega (arith, e))

  pub second_part : (xs ys : List A) (i : ℕ) (x : A) → length xs ≤ i → slice_get ys (i - length xs) ≡ Some x → slice_get (xs ++ ys) i ≡ Some x
  second_part xs ys i x le h = following xs ys i (i - length xs) (omega (arith, le)) ∙ h

  pub first_part_back : (xs ys : List A) (i : ℕ) (x : A) → i < length xs → slice_get (xs ++ ys) i ≡ Some x → slice_get xs i ≡ Some x
  first_part_back [] ys i x lt h = absurd (omega (arith, lt))
  first_part_back (y ∷ xs) ys zero x lt h = h
  first_part_back (y ∷ xs) ys (suc i) x lt h = first_part_back xs ys i x (omega (arith, lt)) h

  pub second_part_back : (xs ys : List A) (i : ℕ) (x : A) → length xs ≤ i → slice_get (xs ++ ys) i ≡ Some x → slice_get ys (i - length xs) ≡ Some x
  second_part_back xs ys i x le h = sym (following xs ys i (i - length xs) (omega (arith, le))) ∙ h

pub ruleset places = (first_part, second_part)
