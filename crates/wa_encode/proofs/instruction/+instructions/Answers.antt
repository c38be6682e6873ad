use Rattle.std.proofs.Common.{◌≡◌, ◌≢◌, ℕ, ◌+◌, List, [], ◌∷◌, drop, sym, ap, subst, ◌∙◌, arith}
use Rattle.std.proofs.lemmas.Grind.{common_steps}
use Rattle.std.proofs.lemmas.List.{drop_more, at_drop_all}
use Rattle.wa_syntax.specs.declared.instr.Instr.{Instr}
use Rattle.wa_syntax.specs.declared.instr.Instr.TheOpen.{Instr-F}
use Rattle.wa_syntax.specs.declared.instr.Instr.TheVariants as variant
use Rattle.wa_syntax.specs.Formats.{◌then◌, byte, vec, u32}
use Rattle.wa_encode.specs.Spelling.{Adds}
use Rattle.wa_encode.proofs.Adding.{Adds-nothing, Adds-then}
use Rattle.wa_encode.proofs.Productions.{Ok-instr, Ok-expression, Ok-no_else, Ok-else, Ok-Block, Ok-Loop, Ok-If}
use Rattle.wa_encode.proofs.Weights.{weights, weight-item, weight-Block, weight-Loop, weight-If}
use Rattle.wa_encode.proofs.instruction.+instructions.Goals as goal

pub else_branch-returns-then-is_empty : goal.else_branch-returns-then-is_empty
else_branch-returns-then-is_empty t c =
    let empty : c.args.otherwise.now ≡ [] = grind (arith, common_steps) in
    Ok-no_else _ _ _ _ empty c.byte.ensures

pub else_branch-returns : goal.else_branch-returns
else_branch-returns t c =
    let some : c.args.otherwise.now ≢ [] = grind (arith, common_steps) in
    Ok-else _ _ _ _ _ some c.in_ok-byte.ensures c.expression.ensures

pub expression-returns : goal.expression-returns
expression-returns t c = Ok-expression _ _ _ _ _ c.in_ok-sequence.ensures c.byte.ensures

pub sequence-loop-instr-preserved : goal.sequence-loop-instr-preserved
sequence-loop-instr-preserved t c = λ levels last rest.
    let xs = c.args.instrs.now in
    let i = c.loop-instr.instr-index in
    let x = c.instr-item.result in
    let here : drop i xs ≡ x ∷ drop (i + 1) xs = drop_more xs i x (omega arith) ∙ ap (λ y. y ∷ drop (i + 1) xs) (sym c.instr-item.is) in
    c.loop-instr.invariant levels last (rw here (Adds-then (c.in_ok-instruction.ensures levels) rest))

pub sequence-returns : goal.sequence-returns
sequence-returns t c = λ levels.
    let none : drop c.loop-instr.instr-index c.args.instrs.now ≡ [] = at_drop_all (λ ys. ys) c.args.instrs.now c.loop-instr.instr-index (omega arith) in
    c.loop-instr.invariant levels c.loop-instr.out.items (rw none (Adds-nothing _))

pub instruction-returns-in_ok-begin-in-Block : goal.instruction-returns-in_ok-begin-in-Block
instruction-returns-in_ok-begin-in-Block t c =
    Ok-Block _ _ _ _ _ _ _ _ c.in-Block.is (c.as_slice.ensures ∙ c.get.ensures) c.in_ok-begin-in-Block.ensures c.expression.ensures

pub instruction-returns-in_ok-begin-in-Loop : goal.instruction-returns-in_ok-begin-in-Loop
instruction-returns-in_ok-begin-in-Loop t c =
    Ok-Loop _ _ _ _ _ _ _ _ c.in-Loop.is (c.as_slice-in-Loop.ensures ∙ c.get-in-Loop.ensures) c.in_ok-begin-in-Loop.ensures c.expression-in-Loop.ensures

pub instruction-returns-in_ok-sequence-in-If : goal.instruction-returns-in_ok-sequence-in-If
instruction-returns-in_ok-sequence-in-If t c =
    let first : c.as_slice-in-If.result.now ≡ c.in-If.arms.0 = c.as_slice-in-If.ensures ∙ ap (λ (arms : List Instr × List Instr). arms.0) c.get-in-If.ensures in
    let second : c.as_slice-in-If-2.result.now ≡ c.in-If.arms.1 = c.as_slice-in-If-2.ensures ∙ ap (λ (arms : List Instr × List Instr). arms.1) c.get-in-If.ensures in
    Ok-If _ _ _ _ _ _ _ _ _ _ c.in-If.is first second c.in_ok-begin-in-If.ensures c.in_ok-sequence-in-If.ensures c.else_branch.ensures

pub sequence-instruction-requires : goal.sequence-instruction-requires
sequence-instruction-requires t c =
    (omega (arith, weight-item c.args.instrs.now c.loop-instr.instr-index c.instr-item.result c.instr-item.result (omega arith) c.instr-item.is), tt)

pub instruction-expression-requires : goal.instruction-expression-requires
instruction-expression-requires t c =
    (omega (arith, weight-Block _ _ _ c.in-Block.is, ap weights (c.as_slice.ensures ∙ c.get.ensures)), tt)

pub instruction-expression-requires-in-Loop : goal.instruction-expression-requires-in-Loop
instruction-expression-requires-in-Loop t c =
    (omega (arith, weight-Loop _ _ _ c.in-Loop.is, ap weights (c.as_slice-in-Loop.ensures ∙ c.get-in-Loop.ensures)), tt)

pub instruction-sequence-requires : goal.instruction-sequence-requires
instruction-sequence-requires t c =
    let first : c.as_slice-in-If.result.now ≡ c.in-If.arms.0 = c.as_slice-in-If.ensures ∙ ap (λ (arms : List Instr × List Instr). arms.0) c.get-in-If.ensures in
    (omega (arith, weight-If _ _ _ c.in-If.is, ap weights first), tt)

pub instruction-else_branch-requires : goal.instruction-else_branch-requires
instruction-else_branch-requires t c =
    let second : c.as_slice-in-If-2.result.now ≡ c.in-If.arms.1 = c.as_slice-in-If-2.ensures ∙ ap (λ (arms : List Instr × List Instr). arms.1) c.get-in-If.ensures in
    (omega (arith, weight-If _ _ _ c.in-If.is, ap weights second), tt)

pub instruction-returns-in-Plain : goal.instruction-returns-in-Plain
instruction-returns-in-Plain t c = Ok-instr _ _ _ _ (Instr-F.Plain c.in-Plain.opcode) _ _ c.in-Plain.is (variant.rolls-Plain c.in-Plain.opcode) (λ Body k. k) c.plain.ensures

pub instruction-returns-in-Br : goal.instruction-returns-in-Br
instruction-returns-in-Br t c = Ok-instr _ _ _ _ (Instr-F.Br c.in-Br.label) _ _ c.in-Br.is (variant.rolls-Br c.in-Br.label) (λ Body k. k) c.indexed.ensures

pub instruction-returns-in-BrIf : goal.instruction-returns-in-BrIf
instruction-returns-in-BrIf t c = Ok-instr _ _ _ _ (Instr-F.BrIf c.in-BrIf.label) _ _ c.in-BrIf.is (variant.rolls-BrIf c.in-BrIf.label) (λ Body k. k) c.indexed-in-BrIf.ensures

pub instruction-returns-in-Call : goal.instruction-returns-in-Call
instruction-returns-in-Call t c = Ok-instr _ _ _ _ (Instr-F.Call c.in-Call.func) _ _ c.in-Call.is (variant.rolls-Call c.in-Call.func) (λ Body k. k) c.indexed-in-Call.ensures

pub instruction-returns-in-CallIndirect : goal.instruction-returns-in-CallIndirect
instruction-returns-in-CallIndirect t c = Ok-instr _ _ _ _ (Instr-F.CallIndirect c.in-CallIndirect.ty) _ _ c.in-CallIndirect.is (variant.rolls-CallIndirect c.in-CallIndirect.ty) (λ Body k. k) c.call_indirect.ensures

pub instruction-returns-in-LocalGet : goal.instruction-returns-in-LocalGet
instruction-returns-in-LocalGet t c = Ok-instr _ _ _ _ (Instr-F.LocalGet c.in-LocalGet.local) _ _ c.in-LocalGet.is (variant.rolls-LocalGet c.in-LocalGet.local) (λ Body k. k) c.indexed-in-LocalGet.ensures

pub instruction-returns-in-LocalSet : goal.instruction-returns-in-LocalSet
instruction-returns-in-LocalSet t c = Ok-instr _ _ _ _ (Instr-F.LocalSet c.in-LocalSet.local) _ _ c.in-LocalSet.is (variant.rolls-LocalSet c.in-LocalSet.local) (λ Body k. k) c.indexed-in-LocalSet.ensures

pub instruction-returns-in-LocalTee : goal.instruction-returns-in-LocalTee
instruction-returns-in-LocalTee t c = Ok-instr _ _ _ _ (Instr-F.LocalTee c.in-LocalTee.local) _ _ c.in-LocalTee.is (variant.rolls-LocalTee c.in-LocalTee.local) (λ Body k. k) c.indexed-in-LocalTee.ensures

pub instruction-returns-in-GlobalGet : goal.instruction-returns-in-GlobalGet
instruction-returns-in-GlobalGet t c = Ok-instr _ _ _ _ (Instr-F.GlobalGet c.in-GlobalGet.global) _ _ c.in-GlobalGet.is (variant.rolls-GlobalGet c.in-GlobalGet.global) (λ Body k. k) c.indexed-in-GlobalGet.ensures

pub instruction-returns-in-GlobalSet : goal.instruction-returns-in-GlobalSet
instruction-returns-in-GlobalSet t c = Ok-instr _ _ _ _ (Instr-F.GlobalSet c.in-GlobalSet.global) _ _ c.in-GlobalSet.is (variant.rolls-GlobalSet c.in-GlobalSet.global) (λ Body k. k) c.indexed-in-GlobalSet.ensures

pub instruction-returns-in-Memory : goal.instruction-returns-in-Memory
instruction-returns-in-Memory t c = Ok-instr _ _ _ _ (Instr-F.Memory c.in-Memory.opcode c.in-Memory.align c.in-Memory.offset) _ _ c.in-Memory.is (variant.rolls-Memory c.in-Memory.opcode c.in-Memory.align c.in-Memory.offset) (λ Body k. k) c.load_or_store.ensures

pub instruction-returns-in-I32Const : goal.instruction-returns-in-I32Const
instruction-returns-in-I32Const t c = Ok-instr _ _ _ _ (Instr-F.I32Const c.in-I32Const.bits) _ _ c.in-I32Const.is (variant.rolls-I32Const c.in-I32Const.bits) (λ Body k. k) c.i32_const.ensures

pub instruction-returns-in-I64Const : goal.instruction-returns-in-I64Const
instruction-returns-in-I64Const t c = Ok-instr _ _ _ _ (Instr-F.I64Const c.in-I64Const.bits) _ _ c.in-I64Const.is (variant.rolls-I64Const c.in-I64Const.bits) (λ Body k. k) c.i64_const.ensures

pub instruction-returns-in-BrTable : goal.instruction-returns-in-BrTable
instruction-returns-in-BrTable t c =
    Ok-instr _ _ _ _ (Instr-F.BrTable c.in-BrTable.table) _ _ c.in-BrTable.is (variant.rolls-BrTable c.in-BrTable.table)
    (λ Body k.
    subst (λ (table : List ℕ × ℕ). Adds (byte 0x0e then vec u32 table.0 then u32 table.1) c.args.out.now.items c.br_table.new.out.items) c.get-in-BrTable.ensures
    (subst (λ (labels : List ℕ). Adds (byte 0x0e then vec u32 labels then u32 c.get-in-BrTable.result.now.1) c.args.out.now.items c.br_table.new.out.items) c.as_slice-in-BrTable.ensures k))
    c.br_table.ensures
