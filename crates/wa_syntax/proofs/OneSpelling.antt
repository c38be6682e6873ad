-- No spelling of a number begins another's.
use Rattle.std.proofs.Common.{◌≡◌, ℕ, ◌-◌, ℤ, List, [], ◌∷◌, ◌++◌, ap, inl, inr, arith}
use Rattle.std.proofs.lemmas.Int.{ints}
use Rattle.wa_syntax.specs.Leb128.{IsUnsigned, IsLastSigned, IsSigned}
use Rattle.wa_syntax.proofs.Signed.{IsLastSigned-small}

pub unsigned : (bits : ℕ) (a b x y : List ℕ) (m n : ℕ) → IsUnsigned bits a m → IsUnsigned bits b n → a ++ x ≡ b ++ y → (a ≡ b) × (m ≡ n)
unsigned bits [] b x y m n h k same = absurd h
unsigned bits (c ∷ a) [] x y m n h k same = absurd k
unsigned bits (c ∷ []) (d ∷ []) x y m n h k same =
    let heads : c ≡ d = cc in
    (ap (λ (e : ℕ). e ∷ []) heads, omega (arith, h.2, k.2))
unsigned bits (c ∷ []) (d ∷ f ∷ b) x y m n h k same =
    let heads : c ≡ d = cc in
    absurd (omega (arith, h.0, k.0))
unsigned bits (c ∷ e ∷ a) (d ∷ []) x y m n h k same =
    let heads : c ≡ d = cc in
    absurd (omega (arith, h.0, k.0))
unsigned bits (c ∷ e ∷ a) (d ∷ f ∷ b) x y m n h k same =
    let heads : c ≡ d = cc in
    let tails : (e ∷ a) ++ x ≡ (f ∷ b) ++ y = cc in
    let rest = unsigned (bits - 7) (e ∷ a) (f ∷ b) x y h.3 k.3 h.5 k.5 tails in
    (cc, omega (arith, h.4, k.4, rest.1))

one_last : (bits c d : ℕ) (y z : ℤ) → c ≡ d → IsLastSigned bits c y → IsLastSigned bits d z → y ≡ z
one_last bits c d y z heads h k =
    elim h [
      | inl p ↦ elim k [ inl q ↦ omega (arith, ints, p.2, q.2) | inr q ↦ absurd (omega (arith, p.0, q.0)) ]
      | inr p ↦ elim k [ inl q ↦ absurd (omega (arith, p.0, q.0)) | inr q ↦ omega (arith, ints, p.3, q.3) ]
    ]

pub signed : (bits : ℕ) (a b x y : List ℕ) (m n : ℤ) → IsSigned bits a m → IsSigned bits b n → a ++ x ≡ b ++ y → (a ≡ b) × (m ≡ n)
signed bits [] b x y m n h k same = absurd h
signed bits (c ∷ a) [] x y m n h k same = absurd k
signed bits (c ∷ []) (d ∷ []) x y m n h k same =
    let heads : c ≡ d = cc in
    (ap (λ (e : ℕ). e ∷ []) heads, one_last bits c d m n heads h k)
signed bits (c ∷ []) (d ∷ f ∷ b) x y m n h k same =
    let heads : c ≡ d = cc in
    absurd (omega (arith, IsLastSigned-small bits c m h, k.0))
signed bits (c ∷ e ∷ a) (d ∷ []) x y m n h k same =
    let heads : c ≡ d = cc in
    absurd (omega (arith, h.0, IsLastSigned-small bits d n k))
signed bits (c ∷ e ∷ a) (d ∷ f ∷ b) x y m n h k same =
    let heads : c ≡ d = cc in
    let tails : (e ∷ a) ++ x ≡ (f ∷ b) ++ y = cc in
    let rest = signed (bits - 7) (e ∷ a) (f ∷ b) x y h.3 k.3 h.5 k.5 tails in
    (cc, omega (arith, ints, h.4, k.4, rest.1))
