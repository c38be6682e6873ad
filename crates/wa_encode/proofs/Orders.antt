-- Bytes that are the same as others, or fewer.
use Rattle.std.proofs.Common.{◌≡◌, ℕ, ◌+◌, ◌-◌, ◌<◌, ◌≤◌, ◌⊎◌, ℤ, List, [], ◌∷◌, ◌++◌, length, refl, sym, ap, subst, ◌∙◌, inl, inr, arith}
use Rattle.std.proofs.lemmas.Bool.{cases_lt}
use Rattle.std.proofs.lemmas.Int.{ints}
use Rattle.std.proofs.lemmas.List.{length-append}
use Rattle.wa_syntax.specs.Leb128.{IsUnsigned, IsLastSigned, IsSigned, IsShortest}

abbrev pub IsOrFewer : List ℕ → List ℕ → Type 0
IsOrFewer bytes other = (other ≡ bytes) ⊎ (length bytes < length other)

pub no_more : (bytes other : List ℕ) → IsOrFewer bytes other → length bytes ≤ length other
no_more bytes other h = elim h [ inl same ↦ omega (arith, ap length same) | inr less ↦ omega (arith, less) ]

pub of_none : (other : List ℕ) → IsOrFewer [] other
of_none [] = inl refl
of_none (b ∷ other) = inr (omega arith)

pub of_both : (a b x y : List ℕ) → IsOrFewer a x → IsOrFewer b y → IsOrFewer (a ++ b) (x ++ y)
of_both a b x y h k = elim h [
  | inl front ↦ elim k [
    | inl back ↦ inl (ap (λ (list : List ℕ). list ++ y) front ∙ ap (λ (list : List ℕ). a ++ list) back)
    | inr less ↦ inr (omega (arith, ap length front, less, length-append a b, length-append x y))
  ]
  | inr less ↦ inr (omega (arith, less, no_more b y k, length-append a b, length-append x y))
]

pub of_parts : (a b x y other : List ℕ) → other ≡ x ++ y → IsOrFewer a x → IsOrFewer b y → IsOrFewer (a ++ b) other
of_parts a b x y other is h k = subst (IsOrFewer (a ++ b)) (sym is) (of_both a b x y h k)

-- ---- numbers

one_unsigned : (bits : ℕ) (a b : List ℕ) (n : ℕ) → IsUnsigned bits a n → IsUnsigned bits b n → length a ≡ length b → a ≡ b
one_unsigned bits [] b n h k same = absurd h
one_unsigned bits (c ∷ a) [] n h k same = absurd k
one_unsigned bits (c ∷ []) (d ∷ []) n h k same =
    let heads : c ≡ d = omega (arith, h.2, k.2) in
    ap (λ (e : ℕ). e ∷ []) heads
one_unsigned bits (c ∷ []) (d ∷ f ∷ b) n h k same = absurd (omega (arith, same))
one_unsigned bits (c ∷ e ∷ a) (d ∷ []) n h k same = absurd (omega (arith, same))
one_unsigned bits (c ∷ e ∷ a) (d ∷ f ∷ b) n h k same =
    let highs : k.3 ≡ h.3 = omega (arith, h.0, h.1, h.4, k.0, k.1, k.4) in
    let heads : c ≡ d = omega (arith, h.0, h.1, h.4, k.0, k.1, k.4) in
    let count : length (e ∷ a) ≡ length (f ∷ b) = omega (arith, same) in
    let rest = one_unsigned (bits - 7) (e ∷ a) (f ∷ b) h.3 h.5 (subst (IsUnsigned (bits - 7) (f ∷ b)) highs k.5) count in
    cc

one_last : (bits c d : ℕ) (z : ℤ) → IsLastSigned bits c z → IsLastSigned bits d z → c ≡ d
one_last bits c d z h k = elim h [
  | inl p ↦ elim k [ inl q ↦ omega (arith, ints, p.2, q.2) | inr q ↦ absurd (omega (arith, ints, p.2, q.1, q.3)) ]
  | inr p ↦ elim k [ inl q ↦ absurd (omega (arith, ints, p.1, p.3, q.2)) | inr q ↦ omega (arith, ints, p.3, q.3) ]
]

one_signed : (bits : ℕ) (a b : List ℕ) (z : ℤ) → IsSigned bits a z → IsSigned bits b z → length a ≡ length b → a ≡ b
one_signed bits [] b z h k same = absurd h
one_signed bits (c ∷ a) [] z h k same = absurd k
one_signed bits (c ∷ []) (d ∷ []) z h k same = ap (λ (e : ℕ). e ∷ []) (one_last bits c d z h k)
one_signed bits (c ∷ []) (d ∷ f ∷ b) z h k same = absurd (omega (arith, same))
one_signed bits (c ∷ e ∷ a) (d ∷ []) z h k same = absurd (omega (arith, same))
one_signed bits (c ∷ e ∷ a) (d ∷ f ∷ b) z h k same =
    let highs : k.3 ≡ h.3 = omega (arith, ints, h.0, h.1, h.4, k.0, k.1, k.4) in
    let heads : c ≡ d = omega (arith, ints, h.0, h.1, h.4, k.0, k.1, k.4) in
    let count : length (e ∷ a) ≡ length (f ∷ b) = omega (arith, same) in
    let rest = one_signed (bits - 7) (e ∷ a) (f ∷ b) h.3 h.5 (subst (IsSigned (bits - 7) (f ∷ b)) highs k.5) count in
    cc

shortest_is : {V : Type 0} (IsSpelling : List ℕ → V → Type 0) (bytes other : List ℕ) (v : V) → ((a b : List ℕ) → IsSpelling a v → IsSpelling b v → length a ≡ length b → a ≡ b) → IsShortest IsSpelling bytes v → IsSpelling other v → IsOrFewer bytes other
shortest_is IsSpelling bytes other v one h spelled = elim (cases_lt (length bytes) (length other)) [
  | inl less ↦ inr less
  | inr from ↦
      let most = h.least other spelled in
      let same : length other ≡ length bytes = omega (arith, from, most) in
      inl (one other bytes spelled h.spelling same)
]

pub unsigned_is : (bits : ℕ) (bytes other : List ℕ) (n : ℕ) → IsShortest (IsUnsigned bits) bytes n → IsUnsigned bits other n → IsOrFewer bytes other
unsigned_is bits bytes other n h spelled =
    shortest_is (IsUnsigned bits) bytes other n (λ a b. one_unsigned bits a b n) h spelled

pub signed_is : (bits : ℕ) (bytes other : List ℕ) (z : ℤ) → IsShortest (IsSigned bits) bytes z → IsSigned bits other z → IsOrFewer bytes other
signed_is bits bytes other z h spelled =
    shortest_is (IsSigned bits) bytes other z (λ a b. one_signed bits a b z) h spelled
