use Rattle.std.proofs.Common.{sym, ap, subst, ◌∙◌}
use Rattle.wa_syntax.specs.Instructions.{Instruction, instruction}
use Rattle.wa_syntax.specs.Validity.{IsTyped}
use Rattle.wa_syntax.proofs.Instructions.{instruction-I32Const, instruction-I64Const}
use Rattle.wa_valid.specs.Names.{names_in}
use Rattle.wa_valid.specs.Operands.{stack, Answers}
use Rattle.wa_valid.proofs.instruction.simple.Goals as goal

pub returns-in-I32Const : goal.returns-in-I32Const
returns-in-I32Const c =
    subst (λ (like : Instruction). Answers (IsTyped (names_in c.args.scope.now c.args.labels.now) like) (stack c.args.operands.now) (stack c.apply.new.self) c.apply.result) (sym (ap instruction c.in-I32Const.is ∙ instruction-I32Const c.in-I32Const.field-0)) c.apply.ensures

pub returns-in-I64Const : goal.returns-in-I64Const
returns-in-I64Const c =
    subst (λ (like : Instruction). Answers (IsTyped (names_in c.args.scope.now c.args.labels.now) like) (stack c.args.operands.now) (stack c.apply-in-I64Const.new.self) c.apply-in-I64Const.result) (sym (ap instruction c.in-I64Const.is ∙ instruction-I64Const c.in-I64Const.field-0)) c.apply-in-I64Const.ensures
