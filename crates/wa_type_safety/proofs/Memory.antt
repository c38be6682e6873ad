-- Bytes stay bytes in what is loaded, stored and grown, and the memory has no more pages than it may.
use Rattle.std.proofs.Common.{◌≡◌, ℕ, zero, suc, ◌+◌, ◌*◌, ◌/◌, ◌^◌, ◌<◌, ◌≤◌, min, Bool, true, false, List, [], ◌∷◌, ◌++◌, length, take, drop, replicate, slice_get, slice_index, unwrap_or, Option, Some, None, All, refl, ap, subst, ◌∙◌, lt_of_lt_of_le, arith}
use Rattle.std.specs.Prelude.{if◌then◌else◌, ◌==◌}
use Rattle.std.specs.Int.{Width, w8, w16, w32, w64, byte_len, byte_at, bytes_low_first, from_le_bytes, to_le_bytes}
use Rattle.std.proofs.Math.Nat.{add-mul-div_right}
use Rattle.std.proofs.lemmas.List.{length-append, length-drop, length-replicate, length-take-le}
use Rattle.std.proofs.lemmas.List.Elements.{All-nil, All-cons, All-head, All-tail, All-append, All-take, All-drop, All-replicate}
use Rattle.std.proofs.lemmas.Nat.{mod_below}
use Rattle.std.proofs.lemmas.Option.{same_Some, none-some}
use Rattle.wa_syntax.specs.declared.module.Limits.{Limits}
use Rattle.wa_syntax.specs.declared.module.Module.{Module}
use Rattle.wa_syntax.specs.declared.opcode.TheConstants.{I32_LOAD, I64_LOAD, I32_LOAD8_S, I32_LOAD8_U, I32_LOAD16_S, I32_LOAD16_U, I64_LOAD8_S, I64_LOAD8_U, I64_LOAD16_S, I64_LOAD16_U, I64_LOAD32_S, I64_LOAD32_U}
use Rattle.wa_syntax.specs.Instructions.{Access, load_of}
use Rattle.wa_syntax.specs.Numeric.{extend_s}
use Rattle.wa_syntax.specs.Operations.{page, overwritten, width_of, extension}
use Rattle.wa_syntax.specs.Steps.{most_pages}
use Rattle.wa_type_safety.specs.Ranges.{IsByte}
use Rattle.wa_type_safety.proofs.Opcodes.{chosen}
use Rattle.wa_type_safety.proofs.Ranges.{extended-below}
use mir.Val.{bits}

-- ---- lists of bytes

pub bytes-overwritten : (xs ys : List ℕ) (at : ℕ) → All IsByte xs → All IsByte ys → All IsByte (overwritten xs at ys)
bytes-overwritten xs ys at h k =
    All-append IsByte (take at xs ++ ys) (drop (at + length ys) xs) (All-append IsByte (take at xs) ys (All-take IsByte at xs h) k) (All-drop IsByte (at + length ys) xs h)

pub length-overwritten : (xs ys : List ℕ) (at : ℕ) → at + length ys ≤ length xs → length (overwritten xs at ys) ≡ length xs
length-overwritten xs ys at h =
    let front = length-take-le at xs (omega arith) in
    let back = length-drop (at + length ys) xs in
    simp length-append (omega (arith, front, back))

pub bytes-grown : (xs : List ℕ) (n : ℕ) → All IsByte xs → All IsByte (xs ++ replicate n 0)
bytes-grown xs n h = All-append IsByte xs (replicate n 0) h (All-replicate IsByte n 0 (omega arith))

pub pages-grown : (xs : List ℕ) (n : ℕ) → length (xs ++ replicate (n * page) 0) / page ≡ length xs / page + n
pages-grown xs n =
    ap (λ (k : ℕ). k / page) (length-append xs (replicate (n * page) 0) ∙ ap (λ (k : ℕ). length xs + k) (length-replicate (n * page) 0))
    ∙ add-mul-div_right (length xs) n {z = page} (omega arith)

-- the byte at an address, which is 0 past the end
byte-index : (xs : List ℕ) (i : ℕ) → All IsByte xs → slice_index xs i < 256
byte-index [] i h = omega arith
byte-index (x ∷ xs) zero h = All-head IsByte x xs h
byte-index (x ∷ xs) (suc i) h = byte-index xs i (All-tail IsByte x xs h)

-- ---- the bytes of a number

byte_at-below : (i n : ℕ) → byte_at i n < 256
byte_at-below zero n = mod_below n 256 (omega arith)
byte_at-below (suc i) n = mod_below (n / 256 ^ suc i) 256 (omega arith)

low-bytes : (i k n : ℕ) → All IsByte (bytes_low_first i k n)
low-bytes i zero n = All-nil IsByte
low-bytes i (suc k) n = All-cons IsByte (byte_at i n) (bytes_low_first (suc i) k n) (byte_at-below i n) (low-bytes (suc i) k n)

low-length : (i k n : ℕ) → length (bytes_low_first i k n) ≡ k
low-length i zero n = refl
low-length i (suc k) n = ap suc (low-length (suc i) k n)

pub bytes-of_number : (w : Width) (n : ℕ) → All IsByte (to_le_bytes w n)
bytes-of_number w n = low-bytes 0 (byte_len w) n

pub length-of_number : (w : Width) (n : ℕ) → length (to_le_bytes w n) ≡ byte_len w
length-of_number w n = low-length 0 (byte_len w) n

-- ---- loads

module _ (bytes : List ℕ) (are : All IsByte bytes) where
  at : (i : ℕ) → slice_index bytes i < 256
  at i = byte-index bytes i are

  number_8 : from_le_bytes w8 bytes < 2 ^ 8
  number_8 = at 0

  number_16 : from_le_bytes w16 bytes < 2 ^ 16
  number_16 = omega (arith, at 0, at 1)

  number_32 : from_le_bytes w32 bytes < 2 ^ 32
  number_32 = omega (arith, at 0, at 1, at 2, at 3)

  number_64 : from_le_bytes w64 bytes < 2 ^ 64
  number_64 = omega (arith, at 0, at 1, at 2, at 3, at 4, at 5, at 6, at 7)

  -- what the access loads is within the width of its type
  abbrev Loads : Access → Type 0
  Loads a = extension a (from_le_bytes a.width bytes) < 2 ^ bits (width_of a.ty)

  widened-below : (a : Access) (n : ℕ) → n < 2 ^ bits (width_of a.ty) → extension a n < 2 ^ bits (width_of a.ty)
  widened-below a n h = by a.signed
    where
      by : (signed : Bool) → (if signed then extend_s a.width (width_of a.ty) n else n) < 2 ^ bits (width_of a.ty)
      by true = extended-below a.width (width_of a.ty) n h
      by false = h

  this : (b a : Access) → Some b ≡ Some a → from_le_bytes b.width bytes < 2 ^ bits (width_of b.ty) → Loads a
  this b a e h = subst Loads (same_Some b a e) (widened-below b (from_le_bytes b.width bytes) h)

  pub load-below : (op : ℕ) (a : Access) → load_of op ≡ Some a → Loads a
  load-below op a e =
      chosen (op == I32_LOAD) _ _ a e (λ b x. this _ a x number_32) (λ e.
      chosen (op == I64_LOAD) _ _ a e (λ b x. this _ a x number_64) (λ e.
      chosen (op == I32_LOAD8_S) _ _ a e (λ b x. this _ a x (lt_of_lt_of_le number_8 (omega arith))) (λ e.
      chosen (op == I32_LOAD8_U) _ _ a e (λ b x. this _ a x (lt_of_lt_of_le number_8 (omega arith))) (λ e.
      chosen (op == I32_LOAD16_S) _ _ a e (λ b x. this _ a x (lt_of_lt_of_le number_16 (omega arith))) (λ e.
      chosen (op == I32_LOAD16_U) _ _ a e (λ b x. this _ a x (lt_of_lt_of_le number_16 (omega arith))) (λ e.
      chosen (op == I64_LOAD8_S) _ _ a e (λ b x. this _ a x (lt_of_lt_of_le number_8 (omega arith))) (λ e.
      chosen (op == I64_LOAD8_U) _ _ a e (λ b x. this _ a x (lt_of_lt_of_le number_8 (omega arith))) (λ e.
      chosen (op == I64_LOAD16_S) _ _ a e (λ b x. this _ a x (lt_of_lt_of_le number_16 (omega arith))) (λ e.
      chosen (op == I64_LOAD16_U) _ _ a e (λ b x. this _ a x (lt_of_lt_of_le number_16 (omega arith))) (λ e.
      chosen (op == I64_LOAD32_S) _ _ a e (λ b x. this _ a x (lt_of_lt_of_le number_32 (omega arith))) (λ e.
      chosen (op == I64_LOAD32_U) _ _ a e (λ b x. this _ a x (lt_of_lt_of_le number_32 (omega arith))) (λ e.
      absurd (none-some a e)))))))))))))

-- ---- pages

-- the greatest number of pages, as `most_pages` has it
abbrev pub most_of : Option Limits → ℕ
most_of None = 0
most_of (Some limits) = min (unwrap_or limits.max 65536) 65536

most_of-le : (o : Option Limits) → most_of o ≤ 65536
most_of-le None = omega arith
most_of-le (Some limits) = omega arith

pub pages-below : (m : Module) (n : ℕ) → n ≤ most_pages m → n < 2 ^ 32
pages-below m n h = let k : most_pages m ≤ 65536 = most_of-le (slice_get m.memories 0) in omega (arith, h, k)
