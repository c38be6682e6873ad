-- What an operator gives of operands within the widths of their types is within the width of its own type.
use Rattle.std.proofs.Common.{◌≡◌, ℕ, suc, ◌+◌, ◌-◌, ◌*◌, ◌%◌, ◌^◌, ◌<◌, ◌≤◌, Bool, true, false, ℤ, pos, negsuc, Result, Ok, Err, refl, ap, subst, pow_pos, lt_of_le_of_lt, lt_of_lt_of_le, arith}
use Rattle.std.specs.Prelude.{◌==◌, not, nat_lt, nat_le, int_lt, int_le, int_div, int_rem, if◌then◌else◌}
use Rattle.std.specs.Int.{Width, w8, w16, w32, w64, w128, cast_signed, cast_unsigned, from_bool, int_shr}
use Rattle.std.specs.Int.Signed.{mag, mag_rem, mag_shr}
use Rattle.std.proofs.Math.Nat.{div-le_self, mod-le}
use Rattle.std.proofs.lemmas.Bool.{ltb-true}
use Rattle.std.proofs.lemmas.Nat.{and_le_l, or_lt, xor_lt, leading_le, trailing_le, ones_le_self, mod_below}
use Rattle.wa_syntax.specs.declared.trap.TrapKind.{TrapKind}
use Rattle.wa_syntax.specs.declared.trap.TrapKind.TheVariants.{Overflow}
use Rattle.wa_syntax.specs.declared.opcode.TheConstants.{I32_EQZ, I32_EQ, I32_NE, I32_LT_S, I32_LT_U, I32_GT_S, I32_GT_U, I32_LE_S, I32_LE_U, I32_GE_S, I32_GE_U, I32_CLZ, I32_CTZ, I32_POPCNT, I32_ADD, I32_SUB, I32_MUL, I32_DIV_S, I32_DIV_U, I32_REM_S, I32_REM_U, I32_AND, I32_OR, I32_XOR, I32_SHL, I32_SHR_S, I32_SHR_U, I32_ROTL, I64_EQZ, I64_EQ, I64_NE, I64_LT_S, I64_LT_U, I64_GT_S, I64_GT_U, I64_LE_S, I64_LE_U, I64_GE_S, I64_GE_U, I64_CLZ, I64_CTZ, I64_POPCNT, I64_ADD, I64_SUB, I64_MUL, I64_DIV_S, I64_DIV_U, I64_REM_S, I64_REM_U, I64_AND, I64_OR, I64_XOR, I64_SHL, I64_SHR_S, I64_SHR_U, I64_ROTL, I64_ROTR, I32_WRAP_I64, I64_EXTEND_I32_S}
use Rattle.wa_syntax.specs.Numeric.{iclz, ictz, idiv_s, idiv_u, irem_s, irem_u, iand, ior, ixor, ishr_s, ishr_u, irotl, irotr, wrap, extend_s, i32_result, i64_result}
use mir.Val.{bits, hbits, sel}

-- what the operator gives, where it doesn't trap, is below the bound
pub record Below (bound : ℕ) (r : Result ℕ TrapKind) : Type 0 where
  pub below : (n : ℕ) → r ≡ Ok n → n < bound

abbrev value_of : Result ℕ TrapKind → ℕ
value_of (Ok n) = n
value_of (Err kind) = 0

pub Below-value : {bound n : ℕ} → n < bound → Below bound (Ok n)
Below-value {bound} {n} h = record { below = λ k e. subst (λ (i : ℕ). i < bound) (ap value_of e) h }

pub Below-trap : {bound : ℕ} {kind : TrapKind} → Below bound (Err kind)
Below-trap = record { below = λ k e. cc }

pub Below-if : {bound : ℕ} {x y : Result ℕ TrapKind} (b : Bool) → Below bound x → Below bound y → Below bound (if b then x else y)
Below-if true h k = h
Below-if false h k = k

-- ---- operators of one width

pub less : (m n : ℕ) → 0 < m → m - suc n < m
less m n h = omega arith

bit-below : (bound : ℕ) (b : Bool) → 1 < bound → from_bool b < bound
bit-below bound true h = h
bit-below bound false h = omega arith

one-below : (w : Width) → 1 < 2 ^ bits w
one-below w8 = omega arith
one-below w16 = omega arith
one-below w32 = omega arith
one-below w64 = omega arith
one-below w128 = omega arith

width-below : (w : Width) → bits w < 2 ^ bits w
width-below w8 = omega arith
width-below w16 = omega arith
width-below w32 = omega arith
width-below w64 = omega arith
width-below w128 = omega arith

half-below : (w : Width) → 2 ^ (bits w - 1) ≤ 2 ^ bits w
half-below w8 = omega arith
half-below w16 = omega arith
half-below w32 = omega arith
half-below w64 = omega arith
half-below w128 = omega arith

module _ (w : Width) where
  pub test-below : (b : Bool) → Below (2 ^ bits w) (Ok (from_bool b))
  test-below b = Below-value (bit-below (2 ^ bits w) b (one-below w))

  modulo-below : (n : ℕ) → Below (2 ^ bits w) (Ok (n % 2 ^ bits w))
  modulo-below n = Below-value (mod_below n (2 ^ bits w) (pow_pos (bits w)))

  count-below : (n : ℕ) → n ≤ bits w → Below (2 ^ bits w) (Ok n)
  count-below n h = Below-value (lt_of_le_of_lt h (width-below w))

  -- the bits of a signed number, and the signed number of bits
  unsigned-below : (z : ℤ) → mag z < 2 ^ bits w → cast_unsigned w z < 2 ^ bits w
  unsigned-below (pos n) h = h
  unsigned-below (negsuc n) h = less (2 ^ bits w) n (pow_pos (bits w))

  signed-below : (b : Bool) (n : ℕ) → n < 2 ^ bits w → mag (sel b (pos n) (negsuc (2 ^ bits w - suc n))) < 2 ^ bits w
  signed-below true n h = h
  signed-below false n h = less (2 ^ bits w) n (pow_pos (bits w))

  magnitude-below : (n : ℕ) → n < 2 ^ bits w → mag (cast_signed w n) < 2 ^ bits w
  magnitude-below n h = signed-below (nat_lt n (2 ^ hbits w)) n h

  quotient-below : (z : ℤ) → Below (2 ^ bits w) (if int_lt z (pos (2 ^ (bits w - 1))) then Ok (cast_unsigned w z) else Err Overflow)
  quotient-below (pos n) = by (nat_lt n (2 ^ (bits w - 1))) (λ e. ltb-true n (2 ^ (bits w - 1)) e)
    where
      by : (b : Bool) → (b ≡ true → n < 2 ^ (bits w - 1)) → Below (2 ^ bits w) (if b then Ok n else Err Overflow)
      by true h = Below-value (lt_of_lt_of_le (h refl) (half-below w))
      by false h = Below-trap
  quotient-below (negsuc n) = Below-value (less (2 ^ bits w) n (pow_pos (bits w)))

  idiv_s-below : (a b : ℕ) → Below (2 ^ bits w) (idiv_s w a b)
  idiv_s-below a b = Below-if (b == 0) Below-trap (quotient-below (int_div (cast_signed w a) (cast_signed w b)))

  irem_s-below : (a b : ℕ) → a < 2 ^ bits w → Below (2 ^ bits w) (irem_s w a b)
  irem_s-below a b h =
      Below-if (b == 0) Below-trap (Below-value (unsigned-below (int_rem (cast_signed w a) (cast_signed w b)) (lt_of_le_of_lt (mag_rem (cast_signed w a) (cast_signed w b)) (magnitude-below a h))))

  idiv_u-below : (a b : ℕ) → a < 2 ^ bits w → Below (2 ^ bits w) (idiv_u a b)
  idiv_u-below a b h = Below-if (b == 0) Below-trap (Below-value (lt_of_le_of_lt (div-le_self a b) h))

  irem_u-below : (a b : ℕ) → a < 2 ^ bits w → Below (2 ^ bits w) (irem_u a b)
  irem_u-below a b h = Below-if (b == 0) Below-trap (Below-value (lt_of_le_of_lt (mod-le a b) h))

  iand-below : (a b : ℕ) → a < 2 ^ bits w → Below (2 ^ bits w) (Ok (iand a b))
  iand-below a b h = Below-value (lt_of_le_of_lt (and_le_l a b) h)

  ior-below : (a b : ℕ) → a < 2 ^ bits w → b < 2 ^ bits w → Below (2 ^ bits w) (Ok (ior a b))
  ior-below a b h k = Below-value (or_lt (bits w) a b h k)

  ixor-below : (a b : ℕ) → a < 2 ^ bits w → b < 2 ^ bits w → Below (2 ^ bits w) (Ok (ixor a b))
  ixor-below a b h k = Below-value (xor_lt (bits w) a b h k)

  ishr_s-below : (a b : ℕ) → a < 2 ^ bits w → Below (2 ^ bits w) (Ok (ishr_s w a b))
  ishr_s-below a b h =
      Below-value (unsigned-below (int_shr (cast_signed w a) (b % bits w)) (lt_of_le_of_lt (mag_shr (cast_signed w a) (2 ^ (b % bits w))) (magnitude-below a h)))

  ishr_u-below : (a b : ℕ) → a < 2 ^ bits w → Below (2 ^ bits w) (Ok (ishr_u w a b))
  ishr_u-below a b h = Below-value (lt_of_le_of_lt (div-le_self a (2 ^ (b % bits w))) h)

  irotl-below : (a b : ℕ) → a < 2 ^ bits w → Below (2 ^ bits w) (Ok (irotl w a b))
  irotl-below a b h =
      Below-value (or_lt (bits w) _ _ (mod_below (a * 2 ^ (b % bits w)) (2 ^ bits w) (pow_pos (bits w))) (lt_of_le_of_lt (div-le_self a (2 ^ ((bits w - b % bits w) % bits w))) h))

  irotr-below : (a b : ℕ) → a < 2 ^ bits w → Below (2 ^ bits w) (Ok (irotr w a b))
  irotr-below a b h =
      Below-value (or_lt (bits w) _ _ (lt_of_le_of_lt (div-le_self a (2 ^ (b % bits w))) h) (mod_below (a * 2 ^ ((bits w - b % bits w) % bits w)) (2 ^ bits w) (pow_pos (bits w))))

-- ---- conversions

pub extended-below : (narrow wide : Width) (n : ℕ) → n < 2 ^ bits wide → extend_s narrow wide n < 2 ^ bits wide
extended-below narrow wide n h = by (nat_lt n (2 ^ hbits narrow))
  where
    by : (b : Bool) → cast_unsigned wide (sel b (pos n) (negsuc (2 ^ bits narrow - suc n))) < 2 ^ bits wide
    by true = h
    by false = less (2 ^ bits wide) (2 ^ bits narrow - suc n) (pow_pos (bits wide))

pub wrapped-below : (a : ℕ) → wrap w32 a < 2 ^ 32
wrapped-below a = mod_below a (2 ^ 32) (pow_pos 32)

wrapped-below_wide : (a : ℕ) → wrap w32 a < 2 ^ 64
wrapped-below_wide a = lt_of_lt_of_le (wrapped-below a) (omega arith)

-- ---- operators by their opcodes

pub i32-below : (op a b : ℕ) → a < 2 ^ 32 → b < 2 ^ 32 → Below (2 ^ 32) (i32_result op a b)
unfolding i32_result
i32-below op a b h k =
    Below-if (op == I32_EQZ) (test-below w32 (a == 0)) (
    Below-if (op == I32_EQ) (test-below w32 (a == b)) (
    Below-if (op == I32_NE) (test-below w32 (not (a == b))) (
    Below-if (op == I32_LT_S) (test-below w32 (int_lt (cast_signed w32 a) (cast_signed w32 b))) (
    Below-if (op == I32_LT_U) (test-below w32 (nat_lt a b)) (
    Below-if (op == I32_GT_S) (test-below w32 (int_lt (cast_signed w32 b) (cast_signed w32 a))) (
    Below-if (op == I32_GT_U) (test-below w32 (nat_lt b a)) (
    Below-if (op == I32_LE_S) (test-below w32 (int_le (cast_signed w32 a) (cast_signed w32 b))) (
    Below-if (op == I32_LE_U) (test-below w32 (nat_le a b)) (
    Below-if (op == I32_GE_S) (test-below w32 (int_le (cast_signed w32 b) (cast_signed w32 a))) (
    Below-if (op == I32_GE_U) (test-below w32 (nat_le b a)) (
    Below-if (op == I32_CLZ) (count-below w32 (iclz w32 a) (leading_le 32 a)) (
    Below-if (op == I32_CTZ) (count-below w32 (ictz w32 a) (trailing_le 32 a)) (
    Below-if (op == I32_POPCNT) (Below-value (lt_of_le_of_lt (ones_le_self a) h)) (
    Below-if (op == I32_ADD) (modulo-below w32 (a + b)) (
    Below-if (op == I32_SUB) (modulo-below w32 (a + (2 ^ 32 - b))) (
    Below-if (op == I32_MUL) (modulo-below w32 (a * b)) (
    Below-if (op == I32_DIV_S) (idiv_s-below w32 a b) (
    Below-if (op == I32_DIV_U) (idiv_u-below w32 a b h) (
    Below-if (op == I32_REM_S) (irem_s-below w32 a b h) (
    Below-if (op == I32_REM_U) (irem_u-below w32 a b h) (
    Below-if (op == I32_AND) (iand-below w32 a b h) (
    Below-if (op == I32_OR) (ior-below w32 a b h k) (
    Below-if (op == I32_XOR) (ixor-below w32 a b h k) (
    Below-if (op == I32_SHL) (modulo-below w32 (a * 2 ^ (b % 32))) (
    Below-if (op == I32_SHR_S) (ishr_s-below w32 a b h) (
    Below-if (op == I32_SHR_U) (ishr_u-below w32 a b h) (
    Below-if (op == I32_ROTL) (irotl-below w32 a b h) (
    irotr-below w32 a b h))))))))))))))))))))))))))))

pub i64-below : (op a b : ℕ) → a < 2 ^ 64 → b < 2 ^ 64 → Below (2 ^ 64) (i64_result op a b)
unfolding i64_result
i64-below op a b h k =
    Below-if (op == I64_EQZ) (test-below w64 (a == 0)) (
    Below-if (op == I64_EQ) (test-below w64 (a == b)) (
    Below-if (op == I64_NE) (test-below w64 (not (a == b))) (
    Below-if (op == I64_LT_S) (test-below w64 (int_lt (cast_signed w64 a) (cast_signed w64 b))) (
    Below-if (op == I64_LT_U) (test-below w64 (nat_lt a b)) (
    Below-if (op == I64_GT_S) (test-below w64 (int_lt (cast_signed w64 b) (cast_signed w64 a))) (
    Below-if (op == I64_GT_U) (test-below w64 (nat_lt b a)) (
    Below-if (op == I64_LE_S) (test-below w64 (int_le (cast_signed w64 a) (cast_signed w64 b))) (
    Below-if (op == I64_LE_U) (test-below w64 (nat_le a b)) (
    Below-if (op == I64_GE_S) (test-below w64 (int_le (cast_signed w64 b) (cast_signed w64 a))) (
    Below-if (op == I64_GE_U) (test-below w64 (nat_le b a)) (
    Below-if (op == I64_CLZ) (count-below w64 (iclz w64 a) (leading_le 64 a)) (
    Below-if (op == I64_CTZ) (count-below w64 (ictz w64 a) (trailing_le 64 a)) (
    Below-if (op == I64_POPCNT) (Below-value (lt_of_le_of_lt (ones_le_self a) h)) (
    Below-if (op == I64_ADD) (modulo-below w64 (a + b)) (
    Below-if (op == I64_SUB) (modulo-below w64 (a + (2 ^ 64 - b))) (
    Below-if (op == I64_MUL) (modulo-below w64 (a * b)) (
    Below-if (op == I64_DIV_S) (idiv_s-below w64 a b) (
    Below-if (op == I64_DIV_U) (idiv_u-below w64 a b h) (
    Below-if (op == I64_REM_S) (irem_s-below w64 a b h) (
    Below-if (op == I64_REM_U) (irem_u-below w64 a b h) (
    Below-if (op == I64_AND) (iand-below w64 a b h) (
    Below-if (op == I64_OR) (ior-below w64 a b h k) (
    Below-if (op == I64_XOR) (ixor-below w64 a b h k) (
    Below-if (op == I64_SHL) (modulo-below w64 (a * 2 ^ (b % 64))) (
    Below-if (op == I64_SHR_S) (ishr_s-below w64 a b h) (
    Below-if (op == I64_SHR_U) (ishr_u-below w64 a b h) (
    Below-if (op == I64_ROTL) (irotl-below w64 a b h) (
    Below-if (op == I64_ROTR) (irotr-below w64 a b h) (
    Below-if (op == I32_WRAP_I64) (Below-value (wrapped-below_wide a)) (
    Below-if (op == I64_EXTEND_I32_S) (Below-value (extended-below w32 w64 (wrap w32 a) (wrapped-below_wide a)))
    (Below-value (wrapped-below_wide a))))))))))))))))))))))))))))))))
