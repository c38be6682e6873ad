use Rattle.std.proofs.Common.{◌≡◌, ◌≢◌, ℕ, ◌-◌, true, false, [], arith, rules, subst, sym}
use Rattle.std.proofs.lemmas.Grind.{common_steps}
use Rattle.std.proofs.lemmas.Result.{IfErr-weaker, IfOk-weaker}
use Rattle.wa_text.specs.Forms.{each}
use Rattle.wa_text.specs.Instructions.{begin, instr}
use Rattle.wa_text.specs.Reading.{Refused, Spelled, anything, first_line, kind_word}
use Rattle.wa_text.specs.Words.{line}
use Rattle.wa_text.specs.declared.reader.instruction.FirstLine.{FirstLine}
use Rattle.wa_text.specs.declared.reader.instruction.FirstLine.TheVariants as first
use Rattle.wa_text.proofs.Lines.{begun, held_Block, held_Loop, held_If, join, join-more, weaker, with_else}
use Rattle.wa_text.proofs.NoLines.{halts-local, instr_never, refused_Block, refused_If, refused_Loop, refused_begun, refused_branch, refused_else_end, refused_empty, refused_end, refused_first, refused_held, refused_last, refused_nested}
use Rattle.wa_text.proofs.OneInstruction.{one-instr}
use Rattle.wa_text.proofs.Refusals.{cut_one, refused_each, refused_wrong, refuses_at, returned}
use Rattle.wa_text.proofs.reader.expression.+instructions.Goals as goal

pub sequence-loop-alloc-preserved : goal.sequence-loop-alloc-preserved
sequence-loop-alloc-preserved t c =
    let pushed = c.in_ok-push.ensures.ok in
    record {
      forward = omega (arith, c.loop-alloc.invariant.forward, c.in_ok-instr.ensures.ends.0);
      within = c.in_ok-instr.ensures.ends.1;
      row = rw pushed (join-more (instr c.args.levels) _ _ c.loop-alloc.invariant.row c.in_ok-instr.ensures.found);
    }

pub else_end-returns-clause-found : goal.else_end-returns-clause-found
else_end-returns-clause-found t c =
    let some : c.in_ok-branch.branch ≢ [] = grind (arith, common_steps) in
    with_else (each (instr c.args.levels)) c.in_ok-branch.branch some c.in-Some.ensures.found c.in_ok-branch.ensures.found c.in_ok-end.ensures.found

pub instruction-returns-else-levels-eq0-clause-found : goal.instruction-returns-else-levels-eq0-clause-found
instruction-returns-else-levels-eq0-clause-found t c =
    let kind = c.in-Begin.kind in
    let ty = c.in-Begin.ty in
    let levels = c.args.levels in
    let first : Spelled (begin (kind_word kind) ty) c.args.text.now c.args.at c.in_ok-first.next = subst (λ (f : FirstLine). Spelled (line (first_line f)) c.args.text.now c.args.at c.in_ok-first.next) c.in-Begin.is c.in_ok-first.ensures.found in
    IfOk-weaker c.structured.result _ _ (λ read held. weaker (λ lines s. begun kind ty levels (levels - 1) read.0 lines (omega (arith, c.if-levels-eq0.false)) s) (join first held)) c.structured.ensures.found

pub structured-returns-in_ok-word_line-in-Block-clause-found : goal.structured-returns-in_ok-word_line-in-Block-clause-found
structured-returns-in_ok-word_line-in-Block-clause-found t c =
    held_Block _ _ (each (instr c.args.levels)) _ _ c.in_ok-block_of-in-Block.ensures c.in-Block.is c.in_ok-body.ensures.found c.in_ok-word_line-in-Block.ensures.found

pub structured-returns-in_ok-word_line-in-Loop-clause-found : goal.structured-returns-in_ok-word_line-in-Loop-clause-found
structured-returns-in_ok-word_line-in-Loop-clause-found t c =
    held_Loop _ _ (each (instr c.args.levels)) _ _ c.in_ok-loop_of-in-Loop.ensures c.in-Loop.is c.in_ok-body.ensures.found c.in_ok-word_line-in-Loop.ensures.found

pub structured-returns-in_ok-if_of-in-If-clause-found : goal.structured-returns-in_ok-if_of-in-If-clause-found
structured-returns-in_ok-if_of-in-If-clause-found t c =
    held_If _ _ (each (instr c.args.levels)) _ _ _ c.in_ok-if_of-in-If.ensures c.in-If.is c.in_ok-body.ensures.found c.in_ok-otherwise-in-If.ensures.found

pub sequence-returns-in_err-instr-clause-refused : goal.sequence-returns-in_err-instr-clause-refused
sequence-returns-in_err-instr-clause-refused t c =
    let levels = c.args.levels in
    returned _ _ _ c.from_residual.ensures.1 (refuses_at c.in_err-instr.field-0.0
    (λ at r. refused_each c.loop-alloc.instrs (cut_one (one-instr levels)) (instr_never levels) halts-local
    (λ h. let yes : c.stops.result ≡ true = c.stops.ensures.1 h in let test : c.stops.result ≡ false = search rules in let no : ⊥ = cc in no)
    c.loop-alloc.invariant.row r)
    c.in_err-instr.ensures.refused)

pub instruction-returns-in_err-first-clause-refused : goal.instruction-returns-in_err-first-clause-refused
instruction-returns-in_err-first-clause-refused t c = returned _ _ _ c.from_residual.ensures.1 (refuses_at c.in_err-first.field-0.0 (λ at r. refused_first c.args.levels r) c.in_err-first.ensures.refused)

pub instruction-returns-then-levels-eq0-clause-refused : goal.instruction-returns-then-levels-eq0-clause-refused
instruction-returns-then-levels-eq0-clause-refused t c =
    let none = c.if-levels-eq0.true in
    let first : Spelled (line (first_line (first.Begin c.in-Begin.kind c.in-Begin.ty))) c.args.text.now c.args.at c.in_ok-first.next = subst (λ (f : FirstLine). Spelled (line (first_line f)) c.args.text.now c.args.at c.in_ok-first.next) c.in-Begin.is c.in_ok-first.ensures.found in
    subst (λ (n : ℕ). Refused (instr n) anything c.args.text.now c.args.at c.args.at) (sym none) (refused_nested c.in-Begin.kind c.in-Begin.ty first)

pub instruction-returns-else-levels-eq0-clause-refused : goal.instruction-returns-else-levels-eq0-clause-refused
instruction-returns-else-levels-eq0-clause-refused t c =
    let kind = c.in-Begin.kind in
    let ty = c.in-Begin.ty in
    let levels = c.args.levels in
    let first : Spelled (line (first_line (first.Begin kind ty))) c.args.text.now c.args.at c.in_ok-first.next = subst (λ (f : FirstLine). Spelled (line (first_line f)) c.args.text.now c.args.at c.in_ok-first.next) c.in-Begin.is c.in_ok-first.ensures.found in
    IfErr-weaker c.structured.result _ _ (λ e k. refuses_at e (λ at r. refused_begun kind ty levels (levels - 1) (omega (arith, c.if-levels-eq0.false)) first r) k) c.structured.ensures.refused

pub structured-returns-in_err-body-clause-refused : goal.structured-returns-in_err-body-clause-refused
structured-returns-in_err-body-clause-refused t c = returned _ _ _ c.from_residual.ensures.1 (refuses_at c.in_err-body.field-0.0 (λ at r. refused_held c.args.kind c.args.ty c.args.levels r) c.in_err-body.ensures.refused)

pub structured-returns-in_err-word_line-in-Block-clause-refused : goal.structured-returns-in_err-word_line-in-Block-clause-refused
structured-returns-in_err-word_line-in-Block-clause-refused t c =
    let fault = c.in_err-word_line-in-Block.ensures.refused in
    returned _ _ _ c.from_residual-in_err-word_line-in-Block.ensures.1 (refused_wrong c.in_err-word_line-in-Block.field-0.0 fault.0
    (refused_Block c.args.kind c.args.ty c.args.levels c.in-Block.is (refused_end c.args.levels c.in_ok-body.body c.in_ok-body.ensures.found c.in_ok-body.ensures.stops fault.1)))

pub structured-returns-in_err-word_line-in-Loop-clause-refused : goal.structured-returns-in_err-word_line-in-Loop-clause-refused
structured-returns-in_err-word_line-in-Loop-clause-refused t c =
    let fault = c.in_err-word_line-in-Loop.ensures.refused in
    returned _ _ _ c.from_residual-in_err-word_line-in-Loop.ensures.1 (refused_wrong c.in_err-word_line-in-Loop.field-0.0 fault.0
    (refused_Loop c.args.kind c.args.ty c.args.levels c.in-Loop.is (refused_end c.args.levels c.in_ok-body.body c.in_ok-body.ensures.found c.in_ok-body.ensures.stops fault.1)))

pub structured-returns-in_err-otherwise-in-If-clause-refused : goal.structured-returns-in_err-otherwise-in-If-clause-refused
structured-returns-in_err-otherwise-in-If-clause-refused t c =
    returned _ _ _ c.from_residual-in_err-otherwise-in-If.ensures.1 (refuses_at c.in_err-otherwise-in-If.field-0.0
    (λ at r. refused_If c.args.kind c.args.ty c.args.levels c.in_ok-body.body c.in-If.is c.in_ok-body.ensures.found c.in_ok-body.ensures.stops r)
    c.in_err-otherwise-in-If.ensures.refused)

pub else_end-returns-in_err-word_line-clause-refused : goal.else_end-returns-in_err-word_line-clause-refused
else_end-returns-in_err-word_line-clause-refused t c =
    let fault = c.in_err-word_line.ensures.refused in
    returned _ _ _ c.from_residual.ensures.1 (refused_wrong c.in_err-word_line.field-0.0 fault.0 (refused_else_end c.args.levels fault.1 c.in_default.ensures.none))

pub else_end-returns-in_err-branch-clause-refused : goal.else_end-returns-in_err-branch-clause-refused
else_end-returns-in_err-branch-clause-refused t c =
    returned _ _ _ c.from_residual-in_err-branch.ensures.1 (refuses_at c.in_err-branch.field-0.0 (λ at r. refused_branch c.args.levels c.in-Some.ensures.found r) c.in_err-branch.ensures.refused)

pub else_end-returns-then-is_empty-clause-refused : goal.else_end-returns-then-is_empty-clause-refused
else_end-returns-then-is_empty-clause-refused t c =
    let none : c.in_ok-branch.branch ≡ [] = grind (arith, common_steps) in
    refused_empty c.args.levels c.in_ok-branch.branch none c.in-Some.ensures.found c.in_ok-branch.ensures.found c.in_ok-branch.ensures.stops

pub else_end-returns-in_err-end-clause-refused : goal.else_end-returns-in_err-end-clause-refused
else_end-returns-in_err-end-clause-refused t c =
    let fault = c.in_err-end.ensures.refused in
    returned _ _ _ c.from_residual-in_err-end.ensures.1 (refused_wrong c.in_err-end.field-0.0 fault.0
    (refused_last c.args.levels c.in-Some.ensures.found (refused_end c.args.levels c.in_ok-branch.branch c.in_ok-branch.ensures.found c.in_ok-branch.ensures.stops fault.1)))
