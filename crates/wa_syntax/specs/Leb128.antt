-- LEB128, the numbers of the binary format, as section 5.2.2 of the WebAssembly Core Specification 1.0 writes them.
use Rattle.std.specs.Prelude.{◌≡◌, ℕ, ◌+◌, ◌-◌, ◌*◌, ◌^◌, ◌<◌, ◌≤◌, ◌⊎◌, ℤ, pos, ◌+ℤ◌, ◌-ℤ◌, ◌*ℤ◌, List, [], ◌∷◌, ◌++◌, length, slice_range}

-- uN, a number without a sign. A byte below 128 is the last, and is the number. A byte from 128 on has the low seven
-- bits, and the bytes after it spell m, the bits above them, which are seven fewer.
abbrev pub IsUnsigned : ℕ → List ℕ → ℕ → Type 0
IsUnsigned bits [] n = ⊥
IsUnsigned bits (b ∷ []) n = (b < 2 ^ 7) × (b < 2 ^ bits) × (n ≡ b)
IsUnsigned bits (b ∷ c ∷ bytes) n =
    (2 ^ 7 ≤ b) × (b < 2 ^ 8) × (7 < bits) × (m : ℕ) × (n ≡ 2 ^ 7 * m + (b - 2 ^ 7)) × IsUnsigned (bits - 7) (c ∷ bytes) m

-- the last byte of sN: below 64 it is the number, and from 64 on 128 more than the number
abbrev pub IsLastSigned : ℕ → ℕ → ℤ → Type 0
IsLastSigned bits b z =
    ((b < 2 ^ 6) × (b < 2 ^ (bits - 1)) × (z ≡ pos b))
    ⊎ ((2 ^ 6 ≤ b) × (b < 2 ^ 7) × (2 ^ 7 - 2 ^ (bits - 1) ≤ b) × (z ≡ pos b -ℤ pos (2 ^ 7)))

-- sN, a number with a sign: as uN, but for the last byte
abbrev pub IsSigned : ℕ → List ℕ → ℤ → Type 0
IsSigned bits [] z = ⊥
IsSigned bits (b ∷ []) z = IsLastSigned bits b z
IsSigned bits (b ∷ c ∷ bytes) z =
    (2 ^ 7 ≤ b) × (b < 2 ^ 8) × (7 < bits) × (m : ℤ) × (z ≡ pos (2 ^ 7) *ℤ m +ℤ pos (b - 2 ^ 7)) × IsSigned (bits - 7) (c ∷ bytes) m

-- from one position up to another, the bytes are a spelling of v
pub record Spells {V : Type 0} (IsSpelling : List ℕ → V → Type 0) (bytes : List ℕ) (from to : ℕ) (v : V) : Type 0 where
  pub within : to ≤ length bytes
  pub spelling : IsSpelling (slice_range bytes from to) v

-- a spelling of v, and none of v is shorter
pub record IsShortest {V : Type 0} (IsSpelling : List ℕ → V → Type 0) (bytes : List ℕ) (v : V) : Type 0 where
  pub spelling : IsSpelling bytes v
  pub least : (other : List ℕ) → IsSpelling other v → length bytes ≤ length other

-- the new list is the old one with a spelling of v at its end
abbrev pub Appends : {V : Type 0} → (List ℕ → V → Type 0) → List ℕ → List ℕ → V → Type 0
Appends IsSpelling old new v = (bytes : List ℕ) × IsSpelling bytes v × (new ≡ old ++ bytes)
