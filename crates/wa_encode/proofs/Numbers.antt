-- The spellings of numbers: those with a sign, and how long the spellings of smaller numbers and of sums are.
use Rattle.std.proofs.Common.{◌≡◌, ℕ, ◌+◌, ◌-◌, ◌*◌, ◌/◌, ◌%◌, ◌^◌, ◌<◌, ◌≤◌, ℤ, List, [], ◌∷◌, length, w32, w64, FitsSigned, refl, sym, ap, subst, ◌∙◌, inl, inr, arith}
use Rattle.std.proofs.Math.Pow.{pow_mono}
use Rattle.std.proofs.lemmas.Bool.{cases_lt}
use Rattle.std.proofs.lemmas.Int.{ints, to_z-of_z, of_z-to_z}
use Rattle.std.specs.Int.{cast_signed, cast_unsigned}
use Rattle.wa_syntax.specs.Leb128.{IsUnsigned, IsSigned, IsShortest, Appends}
use Rattle.wa_syntax.specs.Formats.{i32, i64}
use Rattle.wa_syntax.proofs.Places.{pow-seven}
use Rattle.wa_syntax.proofs.Signed.{IsSigned-within, IsSigned-fits}
use Rattle.wa_syntax.proofs.Unsigned.{IsUnsigned-more}
use Rattle.wa_encode.proofs.Orders.{signed_is}
use Rattle.wa_encode.specs.Spelling.{Adds}

IsSigned-fits64 : (bytes : List ℕ) (z : ℤ) → IsSigned 64 bytes z → FitsSigned w64 z
IsSigned-fits64 bytes z h =
    let within = IsSigned-within 64 bytes z (omega arith) h in
    omega (arith, ints, within.from, within.below)

pub Adds-i32 : (n : ℕ) (z : ℤ) (old new : List ℕ) → z ≡ cast_signed w32 n → n < 2 ^ 32 → Appends (IsShortest (IsSigned 32)) old new (cast_signed w32 (cast_unsigned w32 z)) → Adds (i32 n) old new
Adds-i32 n z old new is below h = record {
  bytes = h.0;
  least = λ other spelled.
      let bits : cast_unsigned w32 z ≡ n = ap (cast_unsigned w32) is ∙ of_z-to_z w32 n below in
      let round : cast_signed w32 (cast_unsigned w32 z) ≡ cast_signed w32 n = ap (cast_signed w32) bits in
      let same : spelled.0 ≡ cast_signed w32 (cast_unsigned w32 z) = sym (to_z-of_z w32 spelled.0 (IsSigned-fits other spelled.0 spelled.1)) ∙ ap (cast_signed w32) (sym spelled.2) ∙ sym round in
      let found : IsSigned 32 other (cast_signed w32 (cast_unsigned w32 z)) = subst (IsSigned 32 other) same spelled.1 in
      ((cast_signed w32 n, subst (IsSigned 32 h.0) round h.1.spelling, sym (of_z-to_z w32 n below)), signed_is 32 h.0 other (cast_signed w32 (cast_unsigned w32 z)) h.1 found);
  is = h.2;
}

pub Adds-i64 : (n : ℕ) (z : ℤ) (old new : List ℕ) → z ≡ cast_signed w64 n → n < 2 ^ 64 → Appends (IsShortest (IsSigned 64)) old new (cast_signed w64 (cast_unsigned w64 z)) → Adds (i64 n) old new
Adds-i64 n z old new is below h = record {
  bytes = h.0;
  least = λ other spelled.
      let bits : cast_unsigned w64 z ≡ n = ap (cast_unsigned w64) is ∙ of_z-to_z w64 n below in
      let round : cast_signed w64 (cast_unsigned w64 z) ≡ cast_signed w64 n = ap (cast_signed w64) bits in
      let same : spelled.0 ≡ cast_signed w64 (cast_unsigned w64 z) = sym (to_z-of_z w64 spelled.0 (IsSigned-fits64 other spelled.0 spelled.1)) ∙ ap (cast_signed w64) (sym spelled.2) ∙ sym round in
      let found : IsSigned 64 other (cast_signed w64 (cast_unsigned w64 z)) = subst (IsSigned 64 other) same spelled.1 in
      ((cast_signed w64 n, subst (IsSigned 64 h.0) round h.1.spelling, sym (of_z-to_z w64 n below)), signed_is 64 h.0 other (cast_signed w64 (cast_unsigned w64 z)) h.1 found);
  is = h.2;
}

-- ---- how long spellings are

-- so many bytes at most spell the number
pub record Within (bits n most : ℕ) : Type 0 where
  pub bytes : List ℕ
  pub spelled : IsUnsigned bits bytes n
  pub few : length bytes ≤ most

-- a low byte before the bits above
more_bytes : (bits n most all : ℕ) → 7 < bits → most + 1 ≤ all → Within (bits - 7) (n / 128) most → Within bits n all
more_bytes bits n most all more one high =
    let whole : 128 * (n / 128) + (n % 128 + 128 - 128) ≡ n = omega arith in
    record {
      bytes = (n % 128 + 128) ∷ high.bytes;
      spelled = subst (IsUnsigned bits ((n % 128 + 128) ∷ high.bytes)) whole (IsUnsigned-more bits (n % 128 + 128) high.bytes (n / 128) (omega arith) (omega arith) more high.spelled);
      few = omega (arith, high.few);
    }

-- a smaller number has no longer spelling
pub shorter : (bits : ℕ) (bytes : List ℕ) (m n : ℕ) → IsUnsigned bits bytes m → n ≤ m → Within bits n (length bytes)
shorter bits [] m n h below = absurd h
shorter bits (b ∷ []) m n h below = record { bytes = n ∷ []; spelled = (omega (arith, h.0, h.2), omega (arith, h.1, h.2), refl); few = omega arith }
shorter bits (b ∷ c ∷ bytes) m n h below =
    let high : n / 128 ≤ h.3 = omega (arith, h.1, h.4) in
    more_bytes bits n (length (c ∷ bytes)) (length (b ∷ c ∷ bytes)) h.2 (omega arith) (shorter (bits - 7) (c ∷ bytes) h.3 (n / 128) h.5 high)

seven_from : (bits n : ℕ) → 128 ≤ n → n < 2 ^ bits → 7 < bits
seven_from bits n from below = elim (cases_lt 7 bits) [
  | inl more ↦ more
  | inr few ↦
      absurd (let most : 2 ^ bits ≤ 2 ^ 7 = pow_mono few in
      omega arith)
]

-- a number that is twice as great has a spelling that is a byte longer
pub doubled : (bits : ℕ) (bytes : List ℕ) (m n : ℕ) → IsUnsigned bits bytes m → n ≤ 2 * m + 1 → n < 2 ^ bits → Within bits n (length bytes + 1)
doubled bits [] m n h below fits = absurd h
doubled bits (b ∷ []) m n h below fits = elim (cases_lt n 128) [
  | inl small ↦ record { bytes = n ∷ []; spelled = (small, fits, refl); few = omega arith }
  | inr from ↦
      let more = seven_from bits n from fits in
      let some : 2 ^ 1 ≤ 2 ^ (bits - 7) = pow_mono {i = 1} {j = bits - 7} (omega arith) in
      record {
        bytes = n ∷ 1 ∷ [];
        spelled = (from, omega (arith, h.0, h.2), more, 1, omega arith, (omega arith, omega arith, refl));
        few = omega arith;
      }
]
doubled bits (b ∷ c ∷ bytes) m n h below fits =
    let seven : 2 ^ bits ≡ 128 * 2 ^ (bits - 7) = pow-seven bits (omega (arith, h.2)) in
    let high : n / 128 ≤ 2 * h.3 + 1 = omega (arith, h.1, h.4) in
    more_bytes bits n (length (c ∷ bytes) + 1) (length (b ∷ c ∷ bytes) + 1) h.2 (omega arith) (doubled (bits - 7) (c ∷ bytes) h.3 (n / 128) h.5 high (omega arith))

some_bytes : (bits : ℕ) (bytes : List ℕ) (n : ℕ) → IsUnsigned bits bytes n → 0 < length bytes
some_bytes bits [] n h = absurd h
some_bytes bits (b ∷ bytes) n h = omega arith

-- a sum has no longer spelling than its parts together
pub summed : (bits : ℕ) (x y : List ℕ) (m n k : ℕ) → IsUnsigned bits x m → IsUnsigned bits y n → k ≡ m + n → k < 2 ^ bits → Within bits k (length x + length y)
summed bits x y m n k h j sum fits = elim (cases_lt m n) [
  | inl less ↦
      let found = doubled bits y n k j (omega arith) fits in
      record { bytes = found.bytes; spelled = found.spelled; few = omega (arith, found.few, some_bytes bits x m h) }
  | inr from ↦
      let found = doubled bits x m k h (omega arith) fits in
      record { bytes = found.bytes; spelled = found.spelled; few = omega (arith, found.few, some_bytes bits y n j) }
]
