-- How the grammar of the binary format is written (section 5.1 of the WebAssembly Core Specification 1.0), and the values
-- that its productions are made of (section 5.2).
use Rattle.std.specs.Prelude.{◌≡◌, ℕ, ℤ, List, [], ◌∷◌, ◌++◌, length}
use Rattle.std.specs.Int.{w32, w64, cast_unsigned}
use Rattle.std.specs.Str.{IsUtf8}
use Rattle.wa_syntax.specs.Leb128.{IsUnsigned, IsSigned}

-- A format is a predicate on lists of bytes: the bytes that spell a value. Each production gives the format of its value.
abbrev pub Format : Type 1
Format = List ℕ → Type 0

-- ---- the grammar (5.1.1)

-- these bytes and no others
abbrev pub exactly : List ℕ → Format
exactly wanted bytes = bytes ≡ wanted

-- the one format, and after it the other
infixr 5 ◌then◌
abbrev pub ◌then◌ : Format → Format → Format
(A then B) bytes = (front : List ℕ) × (back : List ℕ) × (bytes ≡ front ++ back) × A front × B back

-- the values one after another
abbrev pub each : {V : Type 0} → (V → Format) → List V → Format
each B [] = exactly []
each B (v ∷ vs) = B v then each B vs

-- ---- values (5.2)

-- a byte (5.2.1)
abbrev pub byte : ℕ → Format
byte b = exactly (b ∷ [])

-- a number of 32 bits without a sign (5.2.2)
abbrev pub u32 : ℕ → Format
u32 n bytes = IsUnsigned 32 bytes n

-- the 32 bits of a number with a sign (5.2.2)
abbrev pub i32 : ℕ → Format
i32 n bytes = (z : ℤ) × IsSigned 32 bytes z × (n ≡ cast_unsigned w32 z)

-- the 64 bits of a number with a sign (5.2.2)
abbrev pub i64 : ℕ → Format
i64 n bytes = (z : ℤ) × IsSigned 64 bytes z × (n ≡ cast_unsigned w64 z)

-- a vector: how many values there are, and then the values (5.1.3)
abbrev pub vec : {V : Type 0} → (V → Format) → List V → Format
vec B vs = u32 (length vs) then each B vs

-- a name: a vector of bytes that are UTF-8 (5.2.4)
abbrev pub name : List ℕ → Format
name text bytes = IsUtf8 text × vec byte text bytes

-- how many bytes there are, and then so many bytes of the format (5.5.2, 5.5.13)
abbrev pub sized : Format → Format
sized B bytes = (content : List ℕ) × B content × (u32 (length content) then exactly content) bytes
