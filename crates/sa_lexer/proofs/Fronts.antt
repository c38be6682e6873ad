-- The longest prefix of a list whose elements pass a test.
use Rattle.std.proofs.Common.{◌≡◌, ℕ, zero, suc, ◌≤◌, Bool, true, false, cond, not, List, [], ◌∷◌, ◌++◌, length, take, drop, Some, refl, sym, ap, ◌∙◌, take-append-drop, arith}
use Rattle.std.specs.List.{list_all, list_any, prefix_len, take_while, find}
use Rattle.std.proofs.lemmas.Bool.{and_parts, and_from, or_parts, or_from}
use Rattle.std.proofs.lemmas.List.Sums.{take_while-cons}
use Rattle.std.proofs.lemmas.List.Folds.{length-prefix_len}

module _ {X : Type 0} (p : X → Bool) where
  -- elements that all pass are within the longest prefix that does
  pub prefix_len-front : (xs ys : List X) → list_all p xs ≡ true → length xs ≤ prefix_len p (xs ++ ys)
  prefix_len-front [] ys all = omega arith
  prefix_len-front (x ∷ xs) ys all =
      let parts = and_parts (p x) (list_all p xs) all in
      let rest = prefix_len-front xs ys parts.1 in
      rw parts.0 (omega arith)

  -- and they are that prefix where the next one fails
  pub prefix_len-exact : (xs : List X) (y : X) (ys : List X) → list_all p xs ≡ true → p y ≡ false → prefix_len p (xs ++ y ∷ ys) ≡ length xs
  prefix_len-exact [] y ys all fails = rw fails
  prefix_len-exact (x ∷ xs) y ys all fails =
      let parts = and_parts (p x) (list_all p xs) all in
      let rest = prefix_len-exact xs y ys parts.1 fails in
      rw parts.0 (omega arith)

  -- the elements of the longest prefix that passes all do
  pub all_pass : (xs : List X) → list_all p (take_while p xs) ≡ true
  all_pass [] = refl
  all_pass (x ∷ xs) = ap (list_all p) (take_while-cons p x xs) ∙ by (p x) refl (all_pass xs)
    where
      by : (b : Bool) → p x ≡ b → list_all p (take_while p xs) ≡ true → list_all p (cond b (x ∷ take_while p xs) []) ≡ true
      by true passes rest = and_from (p x) (list_all p (take_while p xs)) passes rest
      by false fails rest = refl

  -- what is found passes
  pub found_passes : (xs : List X) (x : X) → find p xs ≡ Some x → p x ≡ true
  found_passes [] x found = absurd cc
  found_passes (y ∷ xs) x found = by (p y) refl found (found_passes xs x)
    where
      by : (b : Bool) → p y ≡ b → cond b (Some y) (find p xs) ≡ Some x → (find p xs ≡ Some x → p x ≡ true) → p x ≡ true
      by true passes same rest = let e : y ≡ x = cc in ap p (sym e) ∙ passes
      by false fails more rest = rest more

  -- a list begins with its longest prefix that passes
  pub take_while-split : (xs : List X) → xs ≡ take_while p xs ++ drop (length (take_while p xs)) xs
  take_while-split xs = rw length-prefix_len (sym (take-append-drop (prefix_len p xs) xs))

  pub take_while-front : (xs ys : List X) → list_all p xs ≡ true → take_while p (xs ++ ys) ≡ xs ++ take_while p ys
  take_while-front [] ys all = refl
  take_while-front (x ∷ xs) ys all =
      let parts = and_parts (p x) (list_all p xs) all in
      take_while-cons p x (xs ++ ys) ∙ rw parts.0 (ap (λ l. x ∷ l) (take_while-front xs ys parts.1))

  -- elements of a list that all pass
  pub list_all-take : (n : ℕ) (xs : List X) → list_all p xs ≡ true → list_all p (take n xs) ≡ true
  list_all-take zero xs all = refl
  list_all-take (suc n) [] all = refl
  list_all-take (suc n) (x ∷ xs) all =
      let parts = and_parts (p x) (list_all p xs) all in
      and_from (p x) (list_all p (take n xs)) parts.0 (list_all-take n xs parts.1)

  -- none before the first that passes does, and where none does all fail
  pub none_passes : (xs : List X) → list_any p (take_while (λ x. not (p x)) xs) ≡ false
  none_passes [] = refl
  none_passes (x ∷ xs) = ap (list_any p) (take_while-cons (λ y. not (p y)) x xs) ∙ by (p x) refl (none_passes xs)
    where
      by : (b : Bool) → p x ≡ b → list_any p (take_while (λ y. not (p y)) xs) ≡ false → list_any p (cond (not b) (x ∷ take_while (λ y. not (p y)) xs) []) ≡ false
      by true passes rest = refl
      by false fails rest = or_from (p x) (list_any p (take_while (λ y. not (p y)) xs)) fails rest

  pub all_fail : (xs : List X) → list_any p xs ≡ false → list_all (λ x. not (p x)) xs ≡ true
  all_fail [] none = refl
  all_fail (x ∷ xs) none =
      let parts = or_parts (p x) (list_any p xs) none in
      and_from (not (p x)) (list_all (λ y. not (p y)) xs) (ap not parts.0) (all_fail xs parts.1)
