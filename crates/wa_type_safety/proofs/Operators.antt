-- What the types of numeric instructions say of their opcodes: one operand or two, and one result, within the widths.
use Rattle.std.proofs.Common.{◌≡◌, ℕ, zero, suc, ◌+◌, ◌^◌, ◌<◌, ◌≤◌, Bool, true, false, [], ◌∷◌, Some, Result, refl, sym, subst, pow_pos, lt_of_lt_of_le, inl, inr, arith}
use Rattle.std.specs.Prelude.{◌==◌, not, ◌&&◌, ◌||◌, ◌⊎◌, nat_lt, nat_le, int_lt, int_le, if◌then◌else◌}
use Rattle.std.specs.Int.{w32, w64, cast_signed}
use Rattle.std.proofs.lemmas.Bool.{eqb-true, leb-true, le-leb, ltb-true, ltb-false}
use Rattle.std.proofs.lemmas.Option.{same_Some, none-some}
use Rattle.wa_syntax.specs.declared.module.ValTy.{ValTy}
use Rattle.wa_syntax.specs.declared.module.ValTy.TheVariants.{I32, I64}
use Rattle.wa_syntax.specs.declared.module.FuncTy.{FuncTy}
use Rattle.wa_syntax.specs.declared.trap.TrapKind.{TrapKind}
use Rattle.wa_syntax.specs.declared.opcode.TheConstants.{I32_EQZ, I32_EQ, I32_GE_U, I64_EQZ, I64_EQ, I64_GE_U, I32_CLZ, I32_POPCNT, I32_ADD, I32_ROTR, I64_CLZ, I64_POPCNT, I64_ADD, I64_ROTR, I32_WRAP_I64, I64_EXTEND_I32_S, I64_EXTEND_I32_U}
use Rattle.wa_syntax.specs.Numeric.{i32_result, i64_result}
use Rattle.wa_syntax.specs.Instructions.{numeric_type, is_from_to}
use Rattle.wa_syntax.specs.Operations.{operator, width_of}
use Rattle.wa_type_safety.proofs.Opcodes.{chosen}
use Rattle.wa_type_safety.proofs.Linked.{and-left, and-right, or-cases}
use Rattle.wa_type_safety.proofs.Ranges.{Below, Below-value, test-below, wrapped-below, i32-below, i64-below}
use mir.Val.{bits}

-- ---- ranges of opcodes

from-to : (low high op : ℕ) → is_from_to low high op ≡ true → (low ≤ op) × (op ≤ high)
from-to low high op e =
    (leb-true low op (and-left (nat_le low op) (nat_le op high) e), leb-true op high (and-right (nat_le low op) (nat_le op high) e))

both : (a b : Bool) → a ≡ true → b ≡ true → (a && b) ≡ true
both true b e f = f
both false b e f = e

in-range : (low high op : ℕ) → low ≤ op → op ≤ high → is_from_to low high op ≡ true
in-range low high op h k = both (nat_le low op) (nat_le op high) (le-leb low op h) (le-leb op high k)

or-first : (a b : Bool) → a ≡ true → (a || b) ≡ true
or-first true b e = refl
or-first false b e = cc

or-second : (a b : Bool) → b ≡ true → (a || b) ≡ true
or-second true b e = refl
or-second false b e = e

not-true : (b : Bool) → (b ≡ true → ⊥) → b ≡ false
not-true true h = absurd (h refl)
not-true false h = refl

-- the operators on i32, as `operator` separates them from the others
abbrev on_i32 : ℕ → Bool
on_i32 op = is_from_to I32_EQZ I32_GE_U op || is_from_to I32_CLZ I32_ROTR op

i32-first : (op : ℕ) → I32_EQZ ≤ op → op ≤ I32_GE_U → on_i32 op ≡ true
i32-first op h k = or-first (is_from_to I32_EQZ I32_GE_U op) (is_from_to I32_CLZ I32_ROTR op) (in-range I32_EQZ I32_GE_U op h k)

i32-second : (op : ℕ) → I32_CLZ ≤ op → op ≤ I32_ROTR → on_i32 op ≡ true
i32-second op h k = or-second (is_from_to I32_EQZ I32_GE_U op) (is_from_to I32_CLZ I32_ROTR op) (in-range I32_CLZ I32_ROTR op h k)

not-i32 : (op : ℕ) → (I32_EQZ ≤ op → op ≤ I32_GE_U → ⊥) → (I32_CLZ ≤ op → op ≤ I32_ROTR → ⊥) → on_i32 op ≡ false
not-i32 op first second = not-true (on_i32 op) (λ e. by (or-cases (is_from_to I32_EQZ I32_GE_U op) (is_from_to I32_CLZ I32_ROTR op) e))
  where
    by : (is_from_to I32_EQZ I32_GE_U op ≡ true) ⊎ (is_from_to I32_CLZ I32_ROTR op ≡ true) → ⊥
    by (inl e) = let r = from-to I32_EQZ I32_GE_U op e in first r.0 r.1
    by (inr e) = let r = from-to I32_CLZ I32_ROTR op e in second r.0 r.1

i64-after : (op : ℕ) → I32_ROTR < op → on_i32 op ≡ false
i64-after op h = not-i32 op (λ low high. omega arith) (λ low high. omega arith)

i64-between : (op : ℕ) → I32_GE_U < op → op < I32_CLZ → on_i32 op ≡ false
i64-between op h k = not-i32 op (λ low high. omega arith) (λ low high. omega arith)

first-below : {bound : ℕ} {x : Result ℕ TrapKind} (b : Bool) (y : Result ℕ TrapKind) → b ≡ true → Below bound x → Below bound (if b then x else y)
first-below true y e h = h
first-below false y e h = cc

second-below : {bound : ℕ} {y : Result ℕ TrapKind} (b : Bool) (x : Result ℕ TrapKind) → b ≡ false → Below bound y → Below bound (if b then x else y)
second-below true x e h = cc
second-below false x e h = h

-- ---- operators

on-i32 : (op a b : ℕ) → on_i32 op ≡ true → a < 2 ^ 32 → b < 2 ^ 32 → Below (2 ^ 32) (operator op a b)
on-i32 op a b is h k = first-below (on_i32 op) (i64_result op a b) is (i32-below op a b h k)

on-i64 : (op a b : ℕ) → on_i32 op ≡ false → a < 2 ^ 64 → b < 2 ^ 64 → Below (2 ^ 64) (operator op a b)
on-i64 op a b is h k = second-below (on_i32 op) (i32_result op a b) is (i64-below op a b h k)

-- what holds of each number from low on, so many more, holds of one of them
abbrev Each : (ℕ → Type 0) → (more low : ℕ) → Type 0
Each P zero low = P low
Each P (suc more) low = P low × Each P more (suc low)

first-or-later : (P : ℕ → Type 0) (low op : ℕ) → low ≤ op → P low → (low < op → P op) → P op
first-or-later P low op h first later = by (nat_lt low op) (λ e. ltb-true low op e) (λ e. ltb-false low op e)
  where
    by : (b : Bool) → (b ≡ true → low < op) → (b ≡ false → op ≤ low) → P op
    by true less past = later (less refl)
    by false less past = let k = past refl in subst P (omega (arith, h, k)) first

each-in : (P : ℕ → Type 0) (more low op : ℕ) → low ≤ op → op ≤ low + more → Each P more low → P op
each-in P zero low op h k each = let e : low ≡ op = omega arith in subst P e each
each-in P (suc more) low op h k each =
    first-or-later P low op h each.0 (λ less. each-in P more (suc low) op less (omega arith) each.1)

-- a test of i64 gives an i32
on-i64_test : (op a b : ℕ) → I64_EQZ ≤ op → op ≤ I64_GE_U → Below (2 ^ 32) (operator op a b)
unfolding i64_result
on-i64_test op a b h k =
    second-below (on_i32 op) (i32_result op a b) (i64-between op (omega (arith, h)) (omega (arith, k)))
    (each-in (λ (o : ℕ). Below (2 ^ 32) (i64_result o a b)) 10 I64_EQZ op h (omega (arith, k)) (
      test-below w32 (a == 0),
      (
        test-below w32 (a == b),
        (
          test-below w32 (not (a == b)),
          (
            test-below w32 (int_lt (cast_signed w64 a) (cast_signed w64 b)),
            (
              test-below w32 (nat_lt a b),
              (
                test-below w32 (int_lt (cast_signed w64 b) (cast_signed w64 a)),
                (
                  test-below w32 (nat_lt b a),
                  (
                    test-below w32 (int_le (cast_signed w64 a) (cast_signed w64 b)),
                    (
                      test-below w32 (nat_le a b),
                      (
                        test-below w32 (int_le (cast_signed w64 b) (cast_signed w64 a)),
                        (
                            test-below w32 (nat_le b a)),
                      ),
                    ),
                  ),
                ),
              ),
            ),
          ),
        ),
      ),
    ))

on-wrap : (op a : ℕ) → op ≡ I32_WRAP_I64 → Below (2 ^ 32) (operator op a 0)
unfolding i64_result
on-wrap op a e = subst (λ (o : ℕ). Below (2 ^ 32) (operator o a 0)) (sym e) (Below-value (wrapped-below a))

-- ---- numeric instructions

-- one operand or two, and one result, each within the width of its type
pub data IsOperator (op : ℕ) : FuncTy → Type 0 where
  unary : (t u : ValTy) → ((a : ℕ) → a < 2 ^ bits (width_of t) → Below (2 ^ bits (width_of u)) (operator op a 0)) → IsOperator op (record { params = t ∷ []; results = u ∷ [] })
  binary : (t u v : ValTy) → ((a b : ℕ) → a < 2 ^ bits (width_of t) → b < 2 ^ bits (width_of u) → Below (2 ^ bits (width_of v)) (operator op a b)) → IsOperator op (record { params = t ∷ u ∷ []; results = v ∷ [] })

one : (t u : ValTy) (op : ℕ) (ty : FuncTy) → Some (record { params = t ∷ []; results = u ∷ [] }) ≡ Some ty → ((a : ℕ) → a < 2 ^ bits (width_of t) → Below (2 ^ bits (width_of u)) (operator op a 0)) → IsOperator op ty
one t u op ty e f = subst (IsOperator op) (same_Some (record { params = t ∷ []; results = u ∷ [] }) ty e) (unary t u f)

two : (t u v : ValTy) (op : ℕ) (ty : FuncTy) → Some (record { params = t ∷ u ∷ []; results = v ∷ [] }) ≡ Some ty → ((a b : ℕ) → a < 2 ^ bits (width_of t) → b < 2 ^ bits (width_of u) → Below (2 ^ bits (width_of v)) (operator op a b)) → IsOperator op ty
two t u v op ty e f = subst (IsOperator op) (same_Some (record { params = t ∷ u ∷ []; results = v ∷ [] }) ty e) (binary t u v f)

pub numeric-operator : (op : ℕ) (ty : FuncTy) → numeric_type op ≡ Some ty → IsOperator op ty
numeric-operator op ty e =
    chosen (op == I32_EQZ) _ _ ty e (λ b x. one I32 I32 op ty x (λ a h. let is = eqb-true op I32_EQZ b in on-i32 op a 0 (i32-first op (omega (arith, is)) (omega (arith, is))) h (pow_pos 32))) (λ e.
    chosen (is_from_to I32_EQ I32_GE_U op) _ _ ty e (λ b x. two I32 I32 I32 op ty x (λ a c h k. let r = from-to I32_EQ I32_GE_U op b in on-i32 op a c (i32-first op (omega (arith, r.0)) r.1) h k)) (λ e.
    chosen (op == I64_EQZ) _ _ ty e (λ b x. one I64 I32 op ty x (λ a h. let is = eqb-true op I64_EQZ b in on-i64_test op a 0 (omega (arith, is)) (omega (arith, is)))) (λ e.
    chosen (is_from_to I64_EQ I64_GE_U op) _ _ ty e (λ b x. two I64 I64 I32 op ty x (λ a c h k. let r = from-to I64_EQ I64_GE_U op b in on-i64_test op a c (omega (arith, r.0)) r.1)) (λ e.
    chosen (is_from_to I32_CLZ I32_POPCNT op) _ _ ty e (λ b x. one I32 I32 op ty x (λ a h. let r = from-to I32_CLZ I32_POPCNT op b in on-i32 op a 0 (i32-second op r.0 (omega (arith, r.1))) h (pow_pos 32))) (λ e.
    chosen (is_from_to I32_ADD I32_ROTR op) _ _ ty e (λ b x. two I32 I32 I32 op ty x (λ a c h k. let r = from-to I32_ADD I32_ROTR op b in on-i32 op a c (i32-second op (omega (arith, r.0)) r.1) h k)) (λ e.
    chosen (is_from_to I64_CLZ I64_POPCNT op) _ _ ty e (λ b x. one I64 I64 op ty x (λ a h. let r = from-to I64_CLZ I64_POPCNT op b in on-i64 op a 0 (i64-after op (omega (arith, r.0))) h (pow_pos 64))) (λ e.
    chosen (is_from_to I64_ADD I64_ROTR op) _ _ ty e (λ b x. two I64 I64 I64 op ty x (λ a c h k. let r = from-to I64_ADD I64_ROTR op b in on-i64 op a c (i64-after op (omega (arith, r.0))) h k)) (λ e.
    chosen (op == I32_WRAP_I64) _ _ ty e (λ b x. one I64 I32 op ty x (λ a h. on-wrap op a (eqb-true op I32_WRAP_I64 b))) (λ e.
    chosen (is_from_to I64_EXTEND_I32_S I64_EXTEND_I32_U op) _ _ ty e (λ b x. one I32 I64 op ty x (λ a h. let r = from-to I64_EXTEND_I32_S I64_EXTEND_I32_U op b in on-i64 op a 0 (i64-after op (omega (arith, r.0))) (lt_of_lt_of_le h (omega arith)) (pow_pos 64))) (λ e.
    absurd (none-some ty e)))))))))))
