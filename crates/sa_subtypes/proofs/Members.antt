-- What is among the elements of a list, by cases on the list.
use Rattle.std.proofs.Common.{◌≡◌, ◌⊎◌, inl, inr, ℕ, zero, suc, ◌<◌, List, [], ◌∷◌, ◌++◌, Contains, length, get_or, flat_map, refl, sym, subst, arith}

module _ {A : Type 0} where
  abbrev pub Among : A → List A → Type 0
  Among x [] = ⊥
  Among x (y ∷ ys) = (y ≡ x) ⊎ Among x ys

  pub among_left : (x : A) (xs ys : List A) → Among x xs → Among x (xs ++ ys)
  among_left x [] ys h = absurd h
  among_left x (z ∷ xs) ys (inl e) = inl e
  among_left x (z ∷ xs) ys (inr h) = inr (among_left x xs ys h)

  pub among_right : (x : A) (xs ys : List A) → Among x ys → Among x (xs ++ ys)
  among_right x [] ys h = h
  among_right x (z ∷ xs) ys h = inr (among_right x xs ys h)

  pub among-append : (x : A) (xs ys : List A) → Among x (xs ++ ys) → Among x xs ⊎ Among x ys
  among-append x [] ys h = inr h
  among-append x (z ∷ xs) ys (inl e) = inl (inl e)
  among-append x (z ∷ xs) ys (inr h) = elim (among-append x xs ys h) [ inl k ↦ inl (inr k) | inr k ↦ inr k ]

  pub among-at : (xs : List A) (k : ℕ) (x : A) → k < length xs → get_or xs k x ≡ x → Among x xs
  among-at [] k x h e = absurd (omega (arith, h))
  among-at (y ∷ xs) zero x h e = inl e
  among-at (y ∷ xs) (suc k) x h e = inr (among-at xs k x (omega (arith, h)) e)

  pub among-contains : (xs : List A) (x : A) → Contains xs x → Among x xs
  among-contains xs x h = among-at xs h.0 x h.1 h.2

  pub contains-among : (xs : List A) (x : A) → Among x xs → Contains xs x
  contains-among [] x h = absurd h
  contains-among (y ∷ xs) x (inl e) = (0, omega arith, e)
  contains-among (y ∷ xs) x (inr h) = let k = contains-among xs x h in (suc k.0, omega (arith, k.1), k.2)

module _ {A B : Type 0} (f : A → List B) where
  pub among-flat_map : (xs : List A) (x : A) (y : B) → Among x xs → Among y (f x) → Among y (flat_map f xs)
  among-flat_map [] x y h k = absurd h
  among-flat_map (z ∷ xs) x y (inl e) k = among_left y (f z) (flat_map f xs) (subst (λ w. Among y (f w)) (sym e) k)
  among-flat_map (z ∷ xs) x y (inr h) k = among_right y (f z) (flat_map f xs) (among-flat_map xs x y h k)

  pub among_from-flat_map : (xs : List A) (y : B) → Among y (flat_map f xs) → (x : A) × Among x xs × Among y (f x)
  among_from-flat_map [] y h = absurd h
  among_from-flat_map (z ∷ xs) y h =
      elim (among-append y (f z) (flat_map f xs) h) [ inl k ↦ (z, inl refl, k) | inr k ↦ (let r = among_from-flat_map xs y k in (r.0, inr r.1, r.2)) ]
