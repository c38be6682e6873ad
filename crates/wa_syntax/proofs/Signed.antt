-- Numbers with a sign: what a spelling's first byte says, and how far the numbers go.
use Rattle.std.proofs.Common.{◌≡◌, ℕ, ◌+◌, ◌-◌, ◌*◌, ◌^◌, ◌<◌, ◌≤◌, ℤ, pos, ◌+ℤ◌, ◌*ℤ◌, neg_ℤ, ◌≤ℤ◌, ◌<ℤ◌, Option, Some, List, [], ◌∷◌, length, get_or, slice_range, w32, FitsSigned, refl, ap, subst, ◌∙◌, inl, inr, arith}
use Rattle.std.proofs.Math.Pow.{pow_mono}
use Rattle.std.proofs.lemmas.Int.{ints}
use Rattle.std.proofs.lemmas.Nat.{pow_pos}
use Rattle.std.proofs.lemmas.Option.{same_Some, some_pair_parts}
use Rattle.wa_syntax.specs.Leb128.{IsLastSigned, IsSigned, Spells}
use Rattle.wa_syntax.proofs.Places.{pow-seven, slice_range-more, slice_range-cases, length-slice_range}

-- at least -limit, and below limit
pub record IsWithin (limit : ℕ) (z : ℤ) : Type 0 where
  pub from : neg_ℤ (pos limit) ≤ℤ z
  pub below : z <ℤ pos limit

pub IsSigned-within : (bits : ℕ) (bytes : List ℕ) (z : ℤ) → 0 < bits → IsSigned bits bytes z → IsWithin (2 ^ (bits - 1)) z
IsSigned-within bits [] z some h = absurd h
IsSigned-within bits (b ∷ []) z some h =
    elim h [
      | inl plain ↦ record { from = omega (arith, ints, plain.1, plain.2); below = omega (arith, ints, plain.1, plain.2) }
      | inr less ↦ record {
        from = omega (arith, ints, less.2, less.3, pow_pos (bits - 1));
        below = omega (arith, ints, less.1, less.3, pow_pos (bits - 1));
      }
    ]
IsSigned-within bits (b ∷ c ∷ bytes) z some h =
    let high = IsSigned-within (bits - 7) (c ∷ bytes) h.3 (omega (arith, h.2)) h.5 in
    let top : bits - 1 - 7 ≡ bits - 7 - 1 = omega arith in
    let seven : 2 ^ (bits - 1) ≡ 128 * 2 ^ (bits - 7 - 1) = pow-seven (bits - 1) (omega (arith, h.2)) ∙ ap (λ (k : ℕ). 128 * 2 ^ k) top in
    record {
      from = omega (arith, ints, h.0, h.1, h.4, seven, high.from, high.below);
      below = omega (arith, ints, h.0, h.1, h.4, seven, high.from, high.below);
    }

pub IsSigned-fits : (bytes : List ℕ) (z : ℤ) → IsSigned 32 bytes z → FitsSigned w32 z
IsSigned-fits bytes z h =
    let within = IsSigned-within 32 bytes z (omega arith) h in
    omega (arith, ints, within.from, within.below)

-- the bits above the first byte of an i64
pub IsSigned-from : (bits : ℕ) (bytes : List ℕ) (z : ℤ) → IsSigned bits bytes z → 0 < bits → bits ≤ 57 → neg_ℤ (pos (2 ^ 56)) ≤ℤ z
IsSigned-from bits bytes z h some few =
    let within = IsSigned-within bits bytes z some h in
    let most : 2 ^ (bits - 1) ≤ 2 ^ 56 = pow_mono {i = bits - 1} {j = 56} (omega arith) in
    omega (arith, ints, within.from)

pub IsSigned-below : (bits : ℕ) (bytes : List ℕ) (z : ℤ) → IsSigned bits bytes z → 0 < bits → bits ≤ 57 → z <ℤ pos (2 ^ 56)
IsSigned-below bits bytes z h some few =
    let within = IsSigned-within bits bytes z some h in
    let most : 2 ^ (bits - 1) ≤ 2 ^ 56 = pow_mono {i = bits - 1} {j = 56} (omega arith) in
    omega (arith, ints, within.below)

-- a byte before the bits above
pub IsSigned-more : (bits b : ℕ) (bytes : List ℕ) (m : ℤ) → 128 ≤ b → b < 256 → 7 < bits → IsSigned (bits - 7) bytes m → IsSigned bits (b ∷ bytes) (pos 128 *ℤ m +ℤ pos (b - 128))
IsSigned-more bits b [] m from below more h = absurd h
IsSigned-more bits b (c ∷ bytes) m from below more h = (from, below, more, m, refl, h)

pub IsLastSigned-small : (bits b : ℕ) (z : ℤ) → IsLastSigned bits b z → b < 128
IsLastSigned-small bits b z h = elim h [ inl plain ↦ omega (arith, plain.0) | inr less ↦ less.1 ]

-- a byte below 128 is the last, and any other is before the bits above
pub IsSigned-at_last : (bits b : ℕ) (bytes : List ℕ) (z : ℤ) → b < 128 → IsSigned bits (b ∷ bytes) z → IsLastSigned bits b z × (bytes ≡ [])
IsSigned-at_last bits b [] z small h = (h, refl)
IsSigned-at_last bits b (c ∷ bytes) z small h = absurd (omega (arith, h.0))

pub IsSigned-at_more : (bits b : ℕ) (bytes : List ℕ) (z : ℤ) → 128 ≤ b → IsSigned bits (b ∷ bytes) z → (7 < bits) × (m : ℤ) × (z ≡ pos 128 *ℤ m +ℤ pos (b - 128)) × IsSigned (bits - 7) bytes m
IsSigned-at_more bits b [] z from h = absurd (omega (arith, IsLastSigned-small bits b z h))
IsSigned-at_more bits b (c ∷ bytes) z from h = (h.2, h.3, h.4, h.5)

pub Spells-last : (bits : ℕ) (bytes : List ℕ) (at : ℕ) (z : ℤ) → at < length bytes → IsLastSigned bits (get_or bytes at 0) z → Spells (IsSigned bits) bytes at (at + 1) z
Spells-last bits bytes at z within last =
    let none : slice_range bytes (at + 1) (at + 1) ≡ [] = elim (slice_range-cases bytes (at + 1) (at + 1) (omega arith)) [ inl e ↦ e | inr e ↦ absurd (omega (arith, e.0)) ] in
    record {
      within = omega arith;
      spelling = rw (slice_range-more bytes at (at + 1) within (omega arith), none) last;
    }

pub Spells-more : (bits : ℕ) (bytes : List ℕ) (at end b : ℕ) (m : ℤ) → at < length bytes → b ≡ get_or bytes at 0 → 128 ≤ b → b < 256 → 7 < bits → Spells (IsSigned (bits - 7)) bytes (at + 1) end m → Spells (IsSigned bits) bytes at end (pos 128 *ℤ m +ℤ pos (b - 128))
Spells-more bits bytes at end b m within is from below more high =
    let before : at + 1 < end = elim (slice_range-cases bytes (at + 1) end high.within) [
      | inl none ↦ absurd (subst (λ (s : List ℕ). IsSigned (bits - 7) s m) none high.spelling)
      | inr some ↦ some.0
    ] in
    record {
      within = high.within;
      spelling = rw (slice_range-more bytes at end within (omega arith), ← is) (IsSigned-more bits b (slice_range bytes (at + 1) end) m from below more high.spelling);
    }

pub Spells-front : (bits : ℕ) (bytes : List ℕ) (at end : ℕ) (z : ℤ) → Spells (IsSigned bits) bytes at end z → (at < end) × IsSigned bits (get_or bytes at 0 ∷ slice_range bytes (at + 1) end) z
Spells-front bits bytes at end z h =
    elim (slice_range-cases bytes at end h.within) [
      | inl none ↦ absurd (subst (λ (s : List ℕ). IsSigned bits s z) none h.spelling)
      | inr some ↦ (some.0, subst (λ (s : List ℕ). IsSigned bits s z) some.1 h.spelling)
    ]

pub Spells-within : (bits : ℕ) (bytes : List ℕ) (at end : ℕ) (z : ℤ) → Spells (IsSigned bits) bytes at end z → at < length bytes
Spells-within bits bytes at end z h = omega (arith, h.within, (Spells-front bits bytes at end z h).0)

pub Spells-at_last : (bits : ℕ) (bytes : List ℕ) (at end b : ℕ) (z : ℤ) → Spells (IsSigned bits) bytes at end z → b ≡ get_or bytes at 0 → b < 128 → IsLastSigned bits b z × (end ≡ at + 1)
Spells-at_last bits bytes at end b z h is small =
    let front = Spells-front bits bytes at end z h in
    let last = IsSigned-at_last bits b (slice_range bytes (at + 1) end) z small (rw is front.1) in
    let none : length (slice_range bytes (at + 1) end) ≡ 0 = ap length last.1 in
    (last.0, omega (arith, front.0, length-slice_range bytes (at + 1) end h.within))

pub Spells-at_more : (bits : ℕ) (bytes : List ℕ) (at end b : ℕ) (z : ℤ) → Spells (IsSigned bits) bytes at end z → b ≡ get_or bytes at 0 → 128 ≤ b → (7 < bits) × (m : ℤ) × (z ≡ pos 128 *ℤ m +ℤ pos (b - 128)) × Spells (IsSigned (bits - 7)) bytes (at + 1) end m
Spells-at_more bits bytes at end b z h is from =
    let front = Spells-front bits bytes at end z h in
    let more = IsSigned-at_more bits b (slice_range bytes (at + 1) end) z from (rw is front.1) in
    (more.0, more.1, more.2, record { within = h.within; spelling = more.3 })

-- the last byte's number is what is spelled there
pub same_last : (last z : ℤ) (after end : ℕ) → ◌≡◌ {A = Option ℤ} (Some last) (Some z) → end ≡ after → ◌≡◌ {A = Option (ℤ × ℕ)} (Some (last, after)) (Some (z, end))
same_last last z after end same is = rw (same_Some last z same, is)

-- what was read above the first byte is what is spelled there, so both make one number
pub same_read : (high m z : ℤ) (b high_end end : ℕ) → ◌≡◌ {A = Option (ℤ × ℕ)} (Some (high, high_end)) (Some (m, end)) → z ≡ pos 128 *ℤ m +ℤ pos (b - 128) → ◌≡◌ {A = Option (ℤ × ℕ)} (Some (pos 128 *ℤ high +ℤ pos (b - 128), high_end)) (Some (z, end))
same_read high m z b high_end end same is =
    let parts = some_pair_parts high m high_end end same in
    rw (parts.0, parts.1, is)

pub ruleset reading = (Spells-last, Spells-within)
