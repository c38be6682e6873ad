-- The first element of lists that are joined.
use Rattle.std.proofs.Common.{◌≡◌, ℕ, ◌+◌, ◌<◌, ◌≤◌, List, [], ◌∷◌, ◌++◌, None, Some, length, flat_map, get_or, drop, slice_get, refl, ap, ◌∙◌, add-one, drop-cons}
use Rattle.std.proofs.lemmas.List.{drop_all}

module _ {B : Type 0} where
  pub first_some : (xs ys : List B) (b : B) → slice_get xs 0 ≡ Some b → slice_get (xs ++ ys) 0 ≡ Some b
  first_some [] ys b h = cc
  first_some (x ∷ xs) ys b h = h

  pub first_none : (xs ys : List B) → slice_get xs 0 ≡ None → slice_get (xs ++ ys) 0 ≡ slice_get ys 0
  first_none [] ys h = refl
  first_none (x ∷ xs) ys h = cc

-- of the lists that the elements give, from an index on
module _ {A B : Type 0} (f : A → List B) where
  next : (xs : List A) (i : ℕ) (x : A) → i < length xs → x ≡ get_or xs i x → flat_map f (drop i xs) ≡ f x ++ flat_map f (drop (i + 1) xs)
  next xs i x h e = rw (add-one, drop-cons xs i x h, ← e)

  pub first_here : (xs : List A) (i : ℕ) (x : A) (b : B) → i < length xs → x ≡ get_or xs i x → slice_get (f x) 0 ≡ Some b → slice_get (flat_map f (drop i xs)) 0 ≡ Some b
  first_here xs i x b h e here = ap (λ bs. slice_get bs 0) (next xs i x h e) ∙ first_some (f x) (flat_map f (drop (i + 1) xs)) b here

  pub first_later : (xs : List A) (i : ℕ) (x : A) → i < length xs → x ≡ get_or xs i x → slice_get (f x) 0 ≡ None → slice_get (flat_map f (drop i xs)) 0 ≡ slice_get (flat_map f (drop (i + 1) xs)) 0
  first_later xs i x h e here = ap (λ bs. slice_get bs 0) (next xs i x h e) ∙ first_none (f x) (flat_map f (drop (i + 1) xs)) here

  pub first_nowhere : (xs : List A) (i : ℕ) → length xs ≤ i → slice_get (flat_map f (drop i xs)) 0 ≡ None
  first_nowhere xs i h = ap (λ ys. slice_get (flat_map f ys) 0) (drop_all i xs h)
