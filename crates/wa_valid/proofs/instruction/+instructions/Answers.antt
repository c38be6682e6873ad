use Rattle.std.proofs.Common.{◌≡◌, List, [], Err, refl, ap, subst, ◌∙◌, rules}
use Rattle.std.specs.Prelude.{Option, option_to_list}
use Rattle.wa_syntax.specs.declared.instr.Instr.{Instr}
use Rattle.wa_syntax.specs.declared.module.ValTy.{ValTy}
use Rattle.wa_syntax.specs.Instructions.{sequence}
use Rattle.wa_syntax.specs.Validity.{AreTyped, with_label}
use Rattle.wa_valid.specs.Names.{names_in}
use Rattle.wa_valid.specs.Operands.{stack}
use Rattle.wa_valid.proofs.Sequences.{Leads-next, IsStuck-next, block-answers, loop-answers, if-answers}
use Rattle.wa_valid.proofs.Steps.{not_ok}
use Rattle.wa_valid.proofs.instruction.+instructions.Goals as goal

pub instruction-returns-in_ok-block-in-Block-clause-answers : goal.instruction-returns-in_ok-block-in-Block-clause-answers
instruction-returns-in_ok-block-in-Block-clause-answers t c =
    block-answers (names_in c.args.scope.now c.args.labels.now) c.args.instr.now c.in-Block.result c.in-Block.body c.as_slice.result.now (stack c.args.operands.now) (stack c.push_result.new.self) c.push_result.result c.in-Block.is (c.as_slice.ensures ∙ c.get.ensures) (c.in_ok-block-in-Block.ensures.says.0 refl) c.push_result.ensures

pub instruction-returns-in_ok-block-in-Loop-clause-answers : goal.instruction-returns-in_ok-block-in-Loop-clause-answers
instruction-returns-in_ok-block-in-Loop-clause-answers t c =
    loop-answers (names_in c.args.scope.now c.args.labels.now) c.args.instr.now c.in-Loop.result c.in-Loop.body c.as_slice-in-Loop.result.now (stack c.args.operands.now) (stack c.push_result-in-Loop.new.self) c.push_result-in-Loop.result c.in-Loop.is (c.as_slice-in-Loop.ensures ∙ c.get-in-Loop.ensures) (c.in_ok-block-in-Loop.ensures.says.0 refl) c.push_result-in-Loop.ensures

pub instruction-returns-in_ok-block-in-If-2-clause-answers : goal.instruction-returns-in_ok-block-in-If-2-clause-answers
instruction-returns-in_ok-block-in-If-2-clause-answers t c =
    if-answers (names_in c.args.scope.now c.args.labels.now) c.args.instr.now c.in-If.result c.in-If.arms c.as_slice-in-If.result.now c.as_slice-in-If-2.result.now (stack c.args.operands.now) (stack c.apply.new.self) c.apply.result c.in-If.is
    (c.as_slice-in-If.ensures ∙ ap (λ (arms : List Instr × List Instr). arms.0) c.get-in-If.ensures)
    (c.as_slice-in-If-2.ensures ∙ ap (λ (arms : List Instr × List Instr). arms.1) c.get-in-If.ensures)
    (c.in_ok-block-in-If.ensures.says.0 refl)
    (subst (λ (labels : List (Option ValTy)). AreTyped (with_label (option_to_list c.in-If.result) (names_in c.args.scope.now labels)) (sequence c.as_slice-in-If-2.result.now) [] (option_to_list c.in-If.result)) c.in_ok-block-in-If.ensures.labels (c.in_ok-block-in-If-2.ensures.says.0 refl))
    c.apply.ensures

pub sequence-returns-in_err-instruction-clause-answers : goal.sequence-returns-in_err-instruction-clause-answers
sequence-returns-in_err-instruction-clause-answers t c =
    let off : c.from_residual.result ≡ Err c.in_err-instruction.field-0.0 = search rules in (
      λ ok. absurd (not_ok c.from_residual.result c.in_err-instruction.field-0.0 off ok),
      λ is. IsStuck-next c.args.scope.now c.args.labels.now c.loop-instr.labels c.args.instrs.now c.loop-instr.instr-index c.instr-item.result (stack c.args.operands.now) (stack c.loop-instr.operands) c.loop-instr-test.true c.instr-item.is c.loop-instr.invariant.same c.loop-instr.invariant.typed (c.in_err-instruction.ensures.answers.1 (cc)),
    )

pub sequence-loop-instr-preserved : goal.sequence-loop-instr-preserved
sequence-loop-instr-preserved t c = record {
  same = c.in_ok-instruction.ensures.labels ∙ c.loop-instr.invariant.same;
  typed = Leads-next c.args.scope.now c.args.labels.now c.loop-instr.labels c.args.instrs.now c.loop-instr.instr-index c.instr-item.result (stack c.args.operands.now) (stack c.loop-instr.operands) (stack c.instruction.new.operands) c.loop-instr-test.true c.instr-item.is c.loop-instr.invariant.same c.loop-instr.invariant.typed (c.in_ok-instruction.ensures.answers.0 refl);
}
