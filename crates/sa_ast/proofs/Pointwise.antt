-- Two lists compared element by element, from an index on.
use Rattle.std.proofs.Common.{◌≡◌, ◌≢◌, ℕ, suc, ◌+◌, ◌<◌, Bool, true, false, List, [], ◌∷◌, length, get_or, drop, refl, ap, ◌∙◌, add-one}
use Rattle.std.proofs.Common.{drop-cons, ◌&&◌}
use Rattle.std.proofs.Math.Seq.{drop-length}
use Rattle.std.specs.Cmp.Lexicographic.{pointwise}

and-false : (b : Bool) → b && false ≡ false
and-false true = refl
and-false false = refl

module _ {A : Type 0} (E : A → A → Bool) where
  pub pointwise-drop : (xs ys : List A) (i : ℕ) (x y : A) → i < length xs → i < length ys → x ≡ get_or xs i x → y ≡ get_or ys i y → pointwise E (drop i xs) (drop i ys) ≡ (E x y && pointwise E (drop (i + 1) xs) (drop (i + 1) ys))
  pointwise-drop xs ys i x y h k e f = rw (add-one, drop-cons xs i x, drop-cons ys i y, ← e, ← f)

  pub pointwise-lengths : (xs ys : List A) → length xs ≢ length ys → pointwise E xs ys ≡ false
  pointwise-lengths [] [] h = absurd (h refl)
  pointwise-lengths [] (y ∷ ys) h = refl
  pointwise-lengths (x ∷ xs) [] h = refl
  pointwise-lengths (x ∷ xs) (y ∷ ys) h = ap (λ b. E x y && b) (pointwise-lengths xs ys (λ e. h (ap suc e))) ∙ and-false (E x y)

pub ruleset places = (pointwise-drop, pointwise-lengths, drop-length)
