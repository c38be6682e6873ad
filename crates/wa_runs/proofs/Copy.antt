-- A worked example: a loop that copies bytes from one place of the memory to another one, with the exact number of its steps. Local 0 is
-- the address that is read, local 1 the one that is written, and local 2 how many bytes are left; each byte is 8 bytes after its address.
use Rattle.std.proofs.Common.{◌≡◌, ℕ, zero, suc, ◌+◌, ◌*◌, ◌<◌, ◌≤◌, ◌^◌, true, List, [], ◌∷◌, length, Some, None, refl, ap, ◌∙◌, arith}
use Rattle.std.specs.Prelude.{◌&&◌, nat_le}
use Rattle.std.specs.Int.{w8, w32}
use Rattle.wa_syntax.specs.declared.module.Module.{Module}
use Rattle.wa_syntax.specs.declared.opcode.TheConstants.{I32_EQZ, I32_ADD, I32_SUB, I32_LOAD8_U, I32_STORE8}
use Rattle.wa_syntax.specs.Instructions.{Instruction, Br, BrIf, LocalGet, LocalSet, I32Const, Numeric, Memory, Sequence, nothing, ◌then◌}
use Rattle.wa_syntax.specs.Machine.{Entry, Label, State, as_i32}
use Rattle.wa_syntax.specs.Numeric.{i32_result, i64_result, iadd, isub, ieqz}
use Rattle.wa_runs.specs.RunsTo.{RunsTo}
use Rattle.wa_runs.specs.StraightLine.{before}
use Rattle.wa_runs.specs.Words.{word_at, with_word}
use Rattle.wa_runs.proofs.Composition.{runs-then, runs-into, runs-count}
use Rattle.wa_runs.proofs.Control.{runs-br-loop, runs-br_if, runs-br_if-past}
use Rattle.wa_runs.proofs.StraightLine.{straight, both}
use Rattle.wa_runs.proofs.Words.{length-with_word}

-- ---- the code: a loop in a block, which is left where no byte is left

abbrev pub test : List Instruction
test = LocalGet 2 ∷ Numeric I32_EQZ ∷ []

abbrev pub copy_byte : List Instruction
copy_byte =
    LocalGet 1 ∷ LocalGet 0 ∷ Memory I32_LOAD8_U 0 8 ∷ Memory I32_STORE8 0 8 ∷ LocalGet 0 ∷ I32Const 1 ∷ Numeric I32_ADD ∷ LocalSet 0 ∷
    LocalGet 1 ∷ I32Const 1 ∷ Numeric I32_ADD ∷ LocalSet 1 ∷ LocalGet 2 ∷ I32Const 1 ∷ Numeric I32_SUB ∷ LocalSet 2 ∷ []

abbrev pub after_test : Sequence
after_test = BrIf 1 then before copy_byte (Br 0 then nothing)

abbrev pub body : Sequence
body = before test after_test

-- ---- what it does to the memory

-- one byte is copied
abbrev pub with_byte : List ℕ → (from to : ℕ) → List ℕ
with_byte memory from to = with_word w8 memory (to + 8) (word_at w8 memory (from + 8))

-- n bytes are, one after another
unfoldable pub copied : List ℕ → (from to n : ℕ) → List ℕ
copied memory from to zero = memory
copied memory from to (suc n) = copied (with_byte memory from to) (from + 1) (to + 1) n

-- ---- arithmetic

not-zero : (left : ℕ) → suc left < 2 ^ 32 → ieqz (as_i32 (suc left)) ≡ 0
not-zero left few =
    let e : as_i32 (suc left) ≡ suc left = omega (arith, few) in
    ap ieqz e ∙ grind arith

is-le : (a b : ℕ) → a ≤ b → nat_le a b ≡ true
is-le a b h = grind (arith, h)

module _ (m : Module) (s : State) (ops : List ℕ) (stack : List Entry) (rest : Sequence) where
  -- in the loop, and after the block
  abbrev at : Sequence → (operands : List ℕ) → (from to left : ℕ) → (memory : List ℕ) → State
  at c operands from to left memory = record s {
    code = c;
    operands = operands;
    locals = from ∷ to ∷ left ∷ [];
    stack = Label 0 (Some body) nothing [] ∷ Label 0 None rest ops ∷ stack;
    memory = memory;
  }

  abbrev end : (from to left : ℕ) → (memory : List ℕ) → State
  end from to left memory = record s {
    code = rest;
    operands = ops;
    locals = from ∷ to ∷ left ∷ [];
    stack = stack;
    memory = memory;
  }

  -- ---- the parts of a round

  tests : (from to left : ℕ) (memory : List ℕ) →
      RunsTo m 2 (at body [] from to left memory) (at after_test (ieqz (as_i32 left) ∷ []) from to left memory)
  unfolding i32_result i64_result
  tests from to left memory = straight m test after_test (at body [] from to left memory) refl

  leaves : (from to left : ℕ) (memory : List ℕ) → RunsTo m 1 (at after_test (1 ∷ []) from to left memory) (end from to left memory)
  leaves from to left memory =
      runs-br_if m (at after_test (1 ∷ []) from to left memory) (end from to left memory) 1 (before copy_byte (Br 0 then nothing)) 1 [] refl
      refl

  copies-byte : (from to left : ℕ) (memory : List ℕ) →
      (nat_le (as_i32 from + 8 + 1) (length memory) && (nat_le (as_i32 to + 8 + 1) (length memory) && true)) ≡ true →
      RunsTo m 16 (at (before copy_byte (Br 0 then nothing)) [] from to left memory)
      (at (Br 0 then nothing) [] (iadd w32 (as_i32 from) 1) (iadd w32 (as_i32 to) 1) (isub w32 (as_i32 left) 1)
      (with_byte memory (as_i32 from) (as_i32 to)))
  unfolding i32_result i64_result
  copies-byte from to left memory h =
      straight m copy_byte (Br 0 then nothing) (at (before copy_byte (Br 0 then nothing)) [] from to left memory) h

  -- a round: the counters are below 2 ^ 32 and go on by one
  round : (from to left : ℕ) (memory : List ℕ) → from + 9 ≤ length memory → to + 9 ≤ length memory → length memory ≤ 2 ^ 32 →
      suc left < 2 ^ 32 →
      RunsTo m 20 (at body [] from to (suc left) memory) (at body [] (from + 1) (to + 1) left (with_byte memory from to))
  round from to left memory f t small few =
      let ef : as_i32 from ≡ from = omega (arith, f, small) in
      let et : as_i32 to ≡ to = omega (arith, t, small) in
      let if' : iadd w32 (as_i32 from) 1 ≡ from + 1 = omega (arith, f, small) in
      let it : iadd w32 (as_i32 to) 1 ≡ to + 1 = omega (arith, t, small) in
      let il : isub w32 (as_i32 (suc left)) 1 ≡ left = omega (arith, few) in
      let is : ieqz (as_i32 (suc left)) ≡ 0 = not-zero left few in
      let lf : nat_le (as_i32 from + 8 + 1) (length memory) ≡ true =
      is-le (as_i32 from + 8 + 1) (length memory) (omega (arith, f, small)) in
      let lt : nat_le (as_i32 to + 8 + 1) (length memory) ≡ true =
      is-le (as_i32 to + 8 + 1) (length memory) (omega (arith, t, small)) in
      let fits : (nat_le (as_i32 from + 8 + 1) (length memory) && (nat_le (as_i32 to + 8 + 1) (length memory) && true)) ≡ true =
      both (nat_le (as_i32 from + 8 + 1) (length memory)) (nat_le (as_i32 to + 8 + 1) (length memory) && true) lf
      (both (nat_le (as_i32 to + 8 + 1) (length memory)) true lt refl) in
      let again = Br 0 then nothing in
      let code = before copy_byte again in
      let written = with_byte memory (as_i32 from) (as_i32 to) in
      let first = runs-into (ap (λ c. at after_test (c ∷ []) from to (suc left) memory) is) (tests from to (suc left) memory) in
      let second = runs-br_if-past {m = m} (at after_test (0 ∷ []) from to (suc left) memory) 1 code 0 [] refl in
      let third = copies-byte from to (suc left) memory fits in
      let moved :
      at again [] (iadd w32 (as_i32 from) 1) (iadd w32 (as_i32 to) 1) (isub w32 (as_i32 (suc left)) 1) written ≡
      at again [] (from + 1) (to + 1) left (with_byte memory from to) =
      ap (λ x. at again [] x (iadd w32 (as_i32 to) 1) (isub w32 (as_i32 (suc left)) 1) written) if' ∙
      ap (λ x. at again [] (from + 1) x (isub w32 (as_i32 (suc left)) 1) written) it ∙
      ap (λ x. at again [] (from + 1) (to + 1) x written) il ∙
      ap (λ x. at again [] (from + 1) (to + 1) left (with_byte memory (as_i32 from) x)) et ∙
      ap (λ x. at again [] (from + 1) (to + 1) left (with_byte memory x to)) ef in
      let last =
      runs-br-loop {m = m} (at again [] (from + 1) (to + 1) left (with_byte memory from to)) 0 body nothing nothing []
      (Label 0 None rest ops ∷ stack) in
      runs-then (runs-then (runs-then first second) (runs-into moved third)) last

  -- ---- the loop: 20 steps for each byte, and 3 for the last test

  pub copies : (left from to : ℕ) (memory : List ℕ) → from + left + 8 ≤ length memory → to + left + 8 ≤ length memory →
      length memory ≤ 2 ^ 32 → left < 2 ^ 32 →
      RunsTo m (20 * left + 3) (at body [] from to left memory) (end (from + left) (to + left) 0 (copied memory from to left))
  unfolding copied
  copies zero from to memory f t small few =
      let ef : from ≡ from + 0 = omega arith in
      let et : to ≡ to + 0 = omega arith in
      runs-into (ap (λ x. end x to 0 memory) ef ∙ ap (λ x. end (from + 0) x 0 memory) et)
      (runs-then (tests from to 0 memory) (leaves from to 0 memory))
  copies (suc left) from to memory f t small few =
      let written = with_byte memory from to in
      let len : length written ≡ length memory = length-with_word w8 memory (to + 8) (word_at w8 memory (from + 8)) (omega (arith, t)) in
      let one = round from to left memory (omega (arith, f)) (omega (arith, t)) small few in
      let others =
      copies left (from + 1) (to + 1) written (omega (arith, f, len)) (omega (arith, t, len)) (omega (arith, small, len))
      (omega (arith, few)) in
      let e : 20 + (20 * left + 3) ≡ 20 * suc left + 3 = omega arith in
      let ef : from + 1 + left ≡ from + suc left = omega arith in
      let et : to + 1 + left ≡ to + suc left = omega arith in
      runs-count e
      (runs-then one
      (runs-into
      (ap (λ x. end x (to + 1 + left) 0 (copied written (from + 1) (to + 1) left)) ef ∙
      ap (λ x. end (from + suc left) x 0 (copied written (from + 1) (to + 1) left)) et)
      others))
