-- Numbers without a sign: what a spelling's first byte says, and how far the numbers go.
use Rattle.std.proofs.Common.{◌≡◌, ℕ, ◌+◌, ◌-◌, ◌*◌, ◌^◌, ◌<◌, ◌≤◌, ◌⊎◌, List, [], ◌∷◌, length, get_or, slice_range, refl, ap, subst, inl, inr, arith}
use Rattle.std.proofs.Math.Pow.{pow_mono}
use Rattle.wa_syntax.specs.Leb128.{IsUnsigned, Spells}
use Rattle.wa_syntax.proofs.Places.{pow-seven, slice_range-more, slice_range-cases, length-slice_range}

pub IsUnsigned-below : (bits : ℕ) (bytes : List ℕ) (n : ℕ) → IsUnsigned bits bytes n → n < 2 ^ bits
IsUnsigned-below bits [] n h = absurd h
IsUnsigned-below bits (b ∷ []) n h = omega (arith, h.1, h.2)
IsUnsigned-below bits (b ∷ c ∷ bytes) n h =
    let high = IsUnsigned-below (bits - 7) (c ∷ bytes) h.3 h.5 in
    omega (arith, h.0, h.1, h.4, pow-seven bits (omega arith), high)

pub IsUnsigned-under : (bits : ℕ) (bytes : List ℕ) (n : ℕ) → bits ≤ 25 → IsUnsigned bits bytes n → n < 2 ^ 25
IsUnsigned-under bits bytes n few h =
    let most : 2 ^ bits ≤ 2 ^ 25 = pow_mono few in
    omega (arith, IsUnsigned-below bits bytes n h)

-- a byte before the bits above
pub IsUnsigned-more : (bits b : ℕ) (bytes : List ℕ) (m : ℕ) → 128 ≤ b → b < 256 → 7 < bits → IsUnsigned (bits - 7) bytes m → IsUnsigned bits (b ∷ bytes) (128 * m + (b - 128))
IsUnsigned-more bits b [] m from below more h = absurd h
IsUnsigned-more bits b (c ∷ bytes) m from below more h = (from, below, more, m, refl, h)

-- the one byte of a number below 128, or a byte before the bits above
abbrev pub Begins : ℕ → ℕ → List ℕ → ℕ → Type 0
Begins bits b bytes n =
    ((b < 128) × (b < 2 ^ bits) × (n ≡ b) × (bytes ≡ []))
    ⊎ ((128 ≤ b) × (7 < bits) × (m : ℕ) × (n ≡ 128 * m + (b - 128)) × IsUnsigned (bits - 7) bytes m)

pub IsUnsigned-cases : (bits b : ℕ) (bytes : List ℕ) (n : ℕ) → IsUnsigned bits (b ∷ bytes) n → Begins bits b bytes n
IsUnsigned-cases bits b [] n h = inl (h.0, h.1, h.2, refl)
IsUnsigned-cases bits b (c ∷ bytes) n h = inr (h.0, h.2, h.3, h.4, h.5)

pub Spells-more : (bits : ℕ) (bytes : List ℕ) (at end b m : ℕ) → at < length bytes → b ≡ get_or bytes at 0 → 128 ≤ b → b < 256 → 7 < bits → Spells (IsUnsigned (bits - 7)) bytes (at + 1) end m → Spells (IsUnsigned bits) bytes at end (128 * m + (b - 128))
Spells-more bits bytes at end b m within is from below more high =
    let before : at + 1 < end = elim (slice_range-cases bytes (at + 1) end high.within) [
      | inl none ↦ absurd (subst (λ (s : List ℕ). IsUnsigned (bits - 7) s m) none high.spelling)
      | inr some ↦ some.0
    ] in
    record {
      within = high.within;
      spelling = rw (slice_range-more bytes at end within (omega arith), ← is) (IsUnsigned-more bits b (slice_range bytes (at + 1) end) m from below more high.spelling);
    }

-- what is spelled at a position, by the byte there
abbrev pub SpellsOn : ℕ → List ℕ → ℕ → ℕ → ℕ → ℕ → Type 0
SpellsOn bits bytes at end b n =
    ((b < 128) × (b < 2 ^ bits) × (n ≡ b) × (end ≡ at + 1))
    ⊎ ((128 ≤ b) × (7 < bits) × (m : ℕ) × (n ≡ 128 * m + (b - 128)) × Spells (IsUnsigned (bits - 7)) bytes (at + 1) end m)

pub Spells-cases : (bits : ℕ) (bytes : List ℕ) (at end n : ℕ) → Spells (IsUnsigned bits) bytes at end n → (at < length bytes) × SpellsOn bits bytes at end (get_or bytes at 0) n
Spells-cases bits bytes at end n h =
    elim (slice_range-cases bytes at end h.within) [
      | inl none ↦ absurd (subst (λ (s : List ℕ). IsUnsigned bits s n) none h.spelling)
      | inr some ↦
          let within : at < length bytes = omega (arith, some.0, h.within) in
          let begins = IsUnsigned-cases bits (get_or bytes at 0) (slice_range bytes (at + 1) end) n (subst (λ (s : List ℕ). IsUnsigned bits s n) some.1 h.spelling) in (
            within,
            elim begins [
              | inl last ↦
                  let none : length (slice_range bytes (at + 1) end) ≡ 0 = ap length last.3 in
                  inl (last.0, last.1, last.2, omega (arith, some.0, length-slice_range bytes (at + 1) end h.within))
              | inr more ↦ inr (more.0, more.1, more.2, more.3, record { within = h.within; spelling = more.4 })
            ],
          )
    ]

pub ruleset reading = (Spells-more, Spells-cases, IsUnsigned-under)
