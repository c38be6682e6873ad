use Rattle.std.proofs.Common.{◌≡◌, ◌≢◌, ℕ, ◌+◌, List, [], ◌∷◌, drop, sym, ap, subst, ◌∙◌, arith}
use Rattle.std.proofs.lemmas.Grind.{common_steps}
use Rattle.std.proofs.lemmas.List.{drop_more, at_drop_all}
use Rattle.wa_syntax.specs.declared.instr.Instr.{Instr}
use Rattle.wa_syntax.specs.declared.instr.Instr.TheOpen.{Instr-F}
use Rattle.wa_syntax.specs.declared.instr.Instr.TheVariants as variant
use Rattle.std.specs.Prelude.{codes}
use Rattle.wa_text.specs.Forms.{◌then◌, each}
use Rattle.wa_text.specs.Words.{line, word, u32}
use Rattle.wa_text.specs.Writing.{AddsLines}
use Rattle.wa_text.proofs.Adding.{Adds-nothing, Adds-then}
use Rattle.wa_text.proofs.Productions.{Ok-instr, Ok-expression, Ok-no_else, Ok-else, Ok-Block, Ok-Loop, Ok-If}
use Rattle.wa_text.proofs.Weights.{weights, weight-item, weight-Block, weight-Loop, weight-If}
use Rattle.wa_text.proofs.writer.instruction.+instructions.Goals as goal

pub else_end-returns-then-is_empty : goal.else_end-returns-then-is_empty
else_end-returns-then-is_empty t c =
    let empty : c.args.otherwise.now ≡ [] = grind (arith, common_steps) in
    Ok-no_else _ _ _ _ empty c.word_line.ensures

pub else_end-returns : goal.else_end-returns
else_end-returns t c =
    let some : c.args.otherwise.now ≢ [] = grind (arith, common_steps) in
    Ok-else _ _ _ _ _ some c.in_ok-word_line.ensures c.expression.ensures

pub expression-returns : goal.expression-returns
expression-returns t c = Ok-expression _ _ _ _ _ c.in_ok-sequence.ensures c.word_line.ensures

pub sequence-loop-instr-preserved : goal.sequence-loop-instr-preserved
sequence-loop-instr-preserved t c = λ levels last rest.
    let xs = c.args.instrs.now in
    let i = c.loop-instr.instr-index in
    let x = c.instr-item.result in
    let here : drop i xs ≡ x ∷ drop (i + 1) xs = drop_more xs i x (omega arith) ∙ ap (λ y. y ∷ drop (i + 1) xs) (sym c.instr-item.is) in
    c.loop-instr.invariant levels last (rw here (Adds-then (c.in_ok-instruction.ensures levels) rest))

pub sequence-returns : goal.sequence-returns
sequence-returns t c = λ levels.
    let none : drop c.loop-instr.instr-index c.args.instrs.now ≡ [] = at_drop_all (λ ys. ys) c.args.instrs.now c.loop-instr.instr-index (omega arith) in
    c.loop-instr.invariant levels c.loop-instr.out.items (rw none (Adds-nothing _))

pub instruction-returns-in_ok-begin-in-Block : goal.instruction-returns-in_ok-begin-in-Block
instruction-returns-in_ok-begin-in-Block t c =
    Ok-Block _ _ _ _ _ _ _ _ c.in-Block.is (c.as_slice.ensures ∙ c.get.ensures) c.in_ok-begin-in-Block.ensures c.expression.ensures

pub instruction-returns-in_ok-begin-in-Loop : goal.instruction-returns-in_ok-begin-in-Loop
instruction-returns-in_ok-begin-in-Loop t c =
    Ok-Loop _ _ _ _ _ _ _ _ c.in-Loop.is (c.as_slice-in-Loop.ensures ∙ c.get-in-Loop.ensures) c.in_ok-begin-in-Loop.ensures c.expression-in-Loop.ensures

pub instruction-returns-in_ok-sequence-in-If : goal.instruction-returns-in_ok-sequence-in-If
instruction-returns-in_ok-sequence-in-If t c =
    let held = c.get-in-If.ensures in
    let body = c.as_slice-in-If.ensures ∙ ap (λ (p : List Instr × List Instr). p.0) held in
    let branch = c.as_slice-in-If-2.ensures ∙ ap (λ (p : List Instr × List Instr). p.1) held in
    Ok-If _ _ _ _ _ _ _ _ _ _ c.in-If.is body branch c.in_ok-begin-in-If.ensures c.in_ok-sequence-in-If.ensures c.else_end.ensures

pub sequence-instruction-requires : goal.sequence-instruction-requires
sequence-instruction-requires t c =
    (omega (arith, weight-item c.args.instrs.now c.loop-instr.instr-index c.instr-item.result c.instr-item.result (omega arith) c.instr-item.is), tt)

pub instruction-expression-requires : goal.instruction-expression-requires
instruction-expression-requires t c =
    (omega (arith, weight-Block _ _ _ c.in-Block.is, ap weights c.as_slice.ensures, ap weights c.get.ensures), tt)

pub instruction-expression-requires-in-Loop : goal.instruction-expression-requires-in-Loop
instruction-expression-requires-in-Loop t c =
    (omega (arith, weight-Loop _ _ _ c.in-Loop.is, ap weights c.as_slice-in-Loop.ensures, ap weights c.get-in-Loop.ensures), tt)

pub instruction-sequence-requires : goal.instruction-sequence-requires
instruction-sequence-requires t c =
    (omega (arith, weight-If _ _ _ c.in-If.is, ap weights c.as_slice-in-If.ensures, ap (λ (p : List Instr × List Instr). weights p.0) c.get-in-If.ensures), tt)

pub instruction-else_end-requires : goal.instruction-else_end-requires
instruction-else_end-requires t c =
    (omega (arith, weight-If _ _ _ c.in-If.is, ap weights c.as_slice-in-If-2.ensures, ap (λ (p : List Instr × List Instr). weights p.1) c.get-in-If.ensures), tt)

pub instruction-returns-in-Plain : goal.instruction-returns-in-Plain
instruction-returns-in-Plain t c = Ok-instr _ _ _ _ (Instr-F.Plain c.in-Plain.opcode) _ _ c.in-Plain.is (variant.rolls-Plain c.in-Plain.opcode) (λ Body k. k) c.plain.ensures

pub instruction-returns-in-Br : goal.instruction-returns-in-Br
instruction-returns-in-Br t c = Ok-instr _ _ _ _ (Instr-F.Br c.in-Br.label) _ _ c.in-Br.is (variant.rolls-Br c.in-Br.label) (λ Body k. k) c.indexed.ensures

pub instruction-returns-in-BrIf : goal.instruction-returns-in-BrIf
instruction-returns-in-BrIf t c = Ok-instr _ _ _ _ (Instr-F.BrIf c.in-BrIf.label) _ _ c.in-BrIf.is (variant.rolls-BrIf c.in-BrIf.label) (λ Body k. k) c.indexed-in-BrIf.ensures

pub instruction-returns-in-Call : goal.instruction-returns-in-Call
instruction-returns-in-Call t c = Ok-instr _ _ _ _ (Instr-F.Call c.in-Call.func) _ _ c.in-Call.is (variant.rolls-Call c.in-Call.func) (λ Body k. k) c.indexed-in-Call.ensures

pub instruction-returns-in-CallIndirect : goal.instruction-returns-in-CallIndirect
instruction-returns-in-CallIndirect t c = Ok-instr _ _ _ _ (Instr-F.CallIndirect c.in-CallIndirect.ty) _ _ c.in-CallIndirect.is (variant.rolls-CallIndirect c.in-CallIndirect.ty) (λ Body k. k) c.indexed-in-CallIndirect.ensures

pub instruction-returns-in-LocalGet : goal.instruction-returns-in-LocalGet
instruction-returns-in-LocalGet t c = Ok-instr _ _ _ _ (Instr-F.LocalGet c.in-LocalGet.local) _ _ c.in-LocalGet.is (variant.rolls-LocalGet c.in-LocalGet.local) (λ Body k. k) c.indexed-in-LocalGet.ensures

pub instruction-returns-in-LocalSet : goal.instruction-returns-in-LocalSet
instruction-returns-in-LocalSet t c = Ok-instr _ _ _ _ (Instr-F.LocalSet c.in-LocalSet.local) _ _ c.in-LocalSet.is (variant.rolls-LocalSet c.in-LocalSet.local) (λ Body k. k) c.indexed-in-LocalSet.ensures

pub instruction-returns-in-LocalTee : goal.instruction-returns-in-LocalTee
instruction-returns-in-LocalTee t c = Ok-instr _ _ _ _ (Instr-F.LocalTee c.in-LocalTee.local) _ _ c.in-LocalTee.is (variant.rolls-LocalTee c.in-LocalTee.local) (λ Body k. k) c.indexed-in-LocalTee.ensures

pub instruction-returns-in-GlobalGet : goal.instruction-returns-in-GlobalGet
instruction-returns-in-GlobalGet t c = Ok-instr _ _ _ _ (Instr-F.GlobalGet c.in-GlobalGet.global) _ _ c.in-GlobalGet.is (variant.rolls-GlobalGet c.in-GlobalGet.global) (λ Body k. k) c.indexed-in-GlobalGet.ensures

pub instruction-returns-in-GlobalSet : goal.instruction-returns-in-GlobalSet
instruction-returns-in-GlobalSet t c = Ok-instr _ _ _ _ (Instr-F.GlobalSet c.in-GlobalSet.global) _ _ c.in-GlobalSet.is (variant.rolls-GlobalSet c.in-GlobalSet.global) (λ Body k. k) c.indexed-in-GlobalSet.ensures

pub instruction-returns-in-Memory : goal.instruction-returns-in-Memory
instruction-returns-in-Memory t c = Ok-instr _ _ _ _ (Instr-F.Memory c.in-Memory.opcode c.in-Memory.align c.in-Memory.offset) _ _ c.in-Memory.is (variant.rolls-Memory c.in-Memory.opcode c.in-Memory.align c.in-Memory.offset) (λ Body k. k) c.access.ensures

pub instruction-returns-in-I32Const : goal.instruction-returns-in-I32Const
instruction-returns-in-I32Const t c = Ok-instr _ _ _ _ (Instr-F.I32Const c.in-I32Const.bits) _ _ c.in-I32Const.is (variant.rolls-I32Const c.in-I32Const.bits) (λ Body k. k) c.indexed-in-I32Const.ensures

pub instruction-returns-in-I64Const : goal.instruction-returns-in-I64Const
instruction-returns-in-I64Const t c = Ok-instr _ _ _ _ (Instr-F.I64Const c.in-I64Const.bits) _ _ c.in-I64Const.is (variant.rolls-I64Const c.in-I64Const.bits) (λ Body k. k) c.i64_const.ensures

pub instruction-returns-in-BrTable : goal.instruction-returns-in-BrTable
instruction-returns-in-BrTable t c =
    let table = c.in-BrTable.table in
    let held = c.get-in-BrTable.result.now in
    let targets : (c.as_slice-in-BrTable.result.now, held.1) ≡ table = ap (λ (labels : List ℕ). (labels, held.1)) c.as_slice-in-BrTable.ensures ∙ c.get-in-BrTable.ensures in
    Ok-instr _ _ _ _ (Instr-F.BrTable table) _ _ c.in-BrTable.is (variant.rolls-BrTable table)
    (λ Body k. subst (λ (p : List ℕ × ℕ). AddsLines (line (word (codes "br_table") then each u32 p.0 then u32 p.1)) c.args.out.now.items c.br_table.new.out.items) targets k) c.br_table.ensures
