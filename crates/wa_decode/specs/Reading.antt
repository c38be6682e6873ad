-- When a call reads what bytes spell.
use Rattle.std.specs.Prelude.{◌≡◌, ℕ, ◌≤◌, ◌⊎◌, List, [], ◌∷◌, length, slice_get, slice_range, Some, Result, IfOk, MatchResult}
use Rattle.wa_syntax.specs.declared.instr.Instr.{Instr}
use Rattle.wa_syntax.specs.declared.module.Init.{Init}
use Rattle.wa_syntax.specs.declared.module.Init.TheVariants.{Const32, Const64, Global}
use Rattle.wa_syntax.specs.Formats.{Format, ◌then◌, byte, exactly, each, u32, i32, i64}
use Rattle.wa_decode.specs.declared.fault.DecodeFault.{DecodeFault}
use Rattle.wa_decode.specs.declared.fault.DecodeFault.TheVariants.{NoMemory}

-- the bytes from one position up to another are of the format
pub record Spelled (A : Format) (bytes : List ℕ) (from to : ℕ) : Type 0 where
  pub forward : from ≤ to
  pub within : to ≤ length bytes
  pub spelling : A (slice_range bytes from to)

-- bytes after their count (5.2.1, 5.5.2, 5.5.13)
abbrev pub counted : List ℕ → Format
counted content = u32 (length content) then exactly content

-- the rest of a format after its first byte
abbrev pub following : {V : Type 0} → ℕ → (V → Format) → V → Format
following b F v bytes = F v (b ∷ bytes)

-- the second branch of a conditional, which may be omitted, and the end (5.4.1)
abbrev pub alternative : (List Instr → Format) → List Instr → Format
alternative Body no_branch bytes = ((no_branch ≡ []) × byte 0x0b bytes) ⊎ (byte 0x05 then Body no_branch then byte 0x0b) bytes

-- an initial value without its end (5.4.6)
abbrev pub init_value : Init → Format
init_value (Const32 n) = byte 0x41 then i32 n
init_value (Const64 n) = byte 0x42 then i64 n
init_value (Global x) = byte 0x23 then u32 x

-- a call read a value of the format at a position, and found the position after it
pub record Reads {V : Type 0} (B : V → Format) (bytes : List ℕ) (at : ℕ) (result : Result (V × ℕ) DecodeFault) : Type 0 where
  -- what was read is spelled there
  pub found : IfOk result (λ read. Spelled (B read.0) bytes at read.1)
  -- what is spelled there was read, unless memory ran out: so any other failure says that nothing is spelled there
  pub complete : (v : V) (end : ℕ) → Spelled (B v) bytes at end
      → MatchResult result (λ read. (read.0 ≡ v) × (read.1 ≡ end)) (λ fault. fault ≡ NoMemory)

-- the same where what is spelled is known, and only the position after it was found
pub record Passes (A : Format) (bytes : List ℕ) (at : ℕ) (result : Result ℕ DecodeFault) : Type 0 where
  pub found : IfOk result (λ end. Spelled A bytes at end)
  pub complete : (end : ℕ) → Spelled A bytes at end → MatchResult result (λ found_end. found_end ≡ end) (λ fault. fault ≡ NoMemory)

-- there is an `end` or an `else` at a position
abbrev pub Stops : List ℕ → ℕ → Type 0
Stops bytes at = (slice_get bytes at ≡ Some 0x0b) ⊎ (slice_get bytes at ≡ Some 0x05)

-- a call read values at a position, one after another, up to an `end` or an `else`
pub record ReadsUpTo {V : Type 0} (B : V → Format) (bytes : List ℕ) (at : ℕ) (result : Result (List V × ℕ) DecodeFault) : Type 0 where
  pub found : IfOk result (λ read. Spelled (each B read.0) bytes at read.1 × Stops bytes read.1)
  pub complete : (all : List V) (end : ℕ) → Spelled (each B all) bytes at end → Stops bytes end
      → MatchResult result (λ read. (read.0 ≡ all) × (read.1 ≡ end)) (λ fault. fault ≡ NoMemory)
