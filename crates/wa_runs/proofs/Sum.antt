-- A worked example: the sum of two 64-bit numbers with the test whether it is a number of 32 bits with a sign, nine instructions. What they
-- do is computed; that the test is 0 for such a sum, and 1 for one that is too large, is arithmetic.
use Rattle.std.proofs.Common.{◌≡◌, ℕ, suc, ◌-◌, ◌<◌, ◌≤◌, ◌%◌, ◌^◌, List, [], ◌∷◌, pos, negsuc, refl, sym, ap, subst, ◌∙◌, arith}
use Rattle.std.specs.Int.{w32, w64, cast_signed, cast_unsigned}
use Rattle.std.proofs.Math.Facts.{to_z_pos, to_z-neg}
use Rattle.wa_syntax.specs.declared.module.Module.{Module}
use Rattle.wa_syntax.specs.declared.opcode.TheConstants.{I64_ADD, I64_NE, I32_WRAP_I64, I64_EXTEND_I32_S}
use Rattle.wa_syntax.specs.Instructions.{Instruction, LocalGet, LocalTee, Numeric, Sequence}
use Rattle.wa_syntax.specs.Machine.{State}
use Rattle.wa_syntax.specs.Numeric.{i64_result, i32_result, iadd, ine, extend_s, wrap}
use Rattle.wa_runs.specs.RunsTo.{RunsTo}
use Rattle.wa_runs.specs.StraightLine.{before}
use Rattle.wa_runs.proofs.StraightLine.{straight}

-- local.get 0, local.get 1, i64.add, local.tee 2, local.get 2, local.get 2, i32.wrap_i64, i64.extend_i32_s, i64.ne
abbrev pub sum_code : List Instruction
sum_code =
    LocalGet 0 ∷ LocalGet 1 ∷ Numeric I64_ADD ∷ LocalTee 2 ∷ LocalGet 2 ∷ LocalGet 2 ∷ Numeric I32_WRAP_I64 ∷
    Numeric I64_EXTEND_I32_S ∷ Numeric I64_NE ∷ []

-- 0 where the low 32 bits of n, extended with copies of the sign, are n
abbrev pub out_of_range : ℕ → ℕ
out_of_range n = ine n (extend_s w32 w64 (wrap w32 n))

module _ (m : Module) (s : State) (a b x : ℕ) (ops : List ℕ) (rest : Sequence) where
  abbrev sum : ℕ
  sum = iadd w64 a b

  pub sum-runs :
      RunsTo m 9 (record s { code = before sum_code rest; operands = ops; locals = a ∷ b ∷ x ∷ [] })
      (record s {
        code = rest;
        operands = ine sum (extend_s w32 w64 (wrap w32 (wrap w32 sum % 2 ^ 32))) ∷ sum ∷ ops;
        locals = a ∷ b ∷ sum ∷ [];
      })
  unfolding i64_result i32_result
  sum-runs = straight m sum_code rest (record s { operands = ops; locals = a ∷ b ∷ x ∷ [] }) refl

-- ---- the test

equal-numbers : (k e : ℕ) → k ≡ e → ine k e ≡ 0
equal-numbers k e h = grind (arith, h)

other-numbers : (k e : ℕ) → k < e → ine k e ≡ 1
other-numbers k e h = grind (arith, h)

-- of a number that isn't negative, of one that is, and of one that is too large
pub in-range-pos : (k : ℕ) → k < 2 ^ 31 → out_of_range k ≡ 0
in-range-pos k h =
    let e : k % 2 ^ 32 ≡ k = omega (arith, h) in
    let low : cast_signed w32 (k % 2 ^ 32) ≡ pos k = ap (cast_signed w32) e ∙ to_z_pos w32 h in
    equal-numbers k (extend_s w32 w64 (wrap w32 k)) (sym (ap (cast_unsigned w64) low))

pub in-range-negative : (k : ℕ) → k < 2 ^ 31 → out_of_range (2 ^ 64 - suc k) ≡ 0
in-range-negative k h =
    let n = 2 ^ 64 - suc k in
    let e : n % 2 ^ 32 ≡ 2 ^ 32 - suc k = omega (arith, h) in
    let high : cast_signed w32 (n % 2 ^ 32) ≡ negsuc k = ap (cast_signed w32) e ∙ to_z-neg w32 k h in
    equal-numbers n (extend_s w32 w64 (wrap w32 n)) (sym (ap (cast_unsigned w64) high))

pub too-large : (k : ℕ) → 2 ^ 31 ≤ k → k < 2 ^ 32 → out_of_range k ≡ 1
too-large k h l =
    let j = 2 ^ 32 - 1 - k in
    let e : k % 2 ^ 32 ≡ 2 ^ 32 - suc j = omega (arith, h, l) in
    let high : cast_signed w32 (k % 2 ^ 32) ≡ negsuc j = ap (cast_signed w32) e ∙ to_z-neg w32 j (omega (arith, h, l)) in
    let is : extend_s w32 w64 (wrap w32 k) ≡ 2 ^ 64 - suc j = ap (cast_unsigned w64) high in
    other-numbers k (extend_s w32 w64 (wrap w32 k)) (subst (λ z. k < z) (sym is) (omega (arith, h, l)))
