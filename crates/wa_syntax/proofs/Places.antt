-- The bytes from one position up to another, and seven bits less.
use Rattle.std.proofs.Common.{◌≡◌, ℕ, suc, ◌+◌, ◌-◌, ◌*◌, ◌^◌, ◌<◌, ◌≤◌, ◌⊎◌, List, [], ◌∷◌, length, get_or, drop, slice_range, ap, ◌∙◌, inl, inr, arith}
use Rattle.std.proofs.lemmas.Bool.{cases_lt}
use Rattle.std.proofs.lemmas.List.{drop_more, length-take, length-drop}
use Rattle.std.proofs.lemmas.Nat.{pow-add}

-- the first of them, and the rest
pub slice_range-more : (bytes : List ℕ) (from to : ℕ) → from < length bytes → from < to → slice_range bytes from to ≡ get_or bytes from 0 ∷ slice_range bytes (from + 1) to
slice_range-more bytes from to within before =
    let one_more : to - from ≡ suc (to - (from + 1)) = omega arith in
    rw (one_more, drop_more bytes from 0 within)

-- none, or a first one and the rest
pub slice_range-cases : (bytes : List ℕ) (from to : ℕ) → to ≤ length bytes → (slice_range bytes from to ≡ []) ⊎ ((from < to) × (slice_range bytes from to ≡ get_or bytes from 0 ∷ slice_range bytes (from + 1) to))
slice_range-cases bytes from to within =
    elim (cases_lt from to) [
      | inl before ↦ inr (before, slice_range-more bytes from to (omega arith) before)
      | inr after ↦
          inl (let none : to - from ≡ 0 = omega arith in
          rw none)
    ]

pub length-slice_range : (bytes : List ℕ) (from to : ℕ) → to ≤ length bytes → length (slice_range bytes from to) ≡ to - from
length-slice_range bytes from to within = omega (arith, length-take (to - from) (drop from bytes), length-drop from bytes)

-- seven bits less
pub pow-seven : (bits : ℕ) → 7 ≤ bits → 2 ^ bits ≡ 128 * 2 ^ (bits - 7)
pow-seven bits more = ap (λ (k : ℕ). 2 ^ k) (omega arith) ∙ pow-add 2 7 (bits - 7)
