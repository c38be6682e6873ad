use Rattle.std.proofs.Common.{◌≡◌, take}
use Rattle.wa_syntax.specs.Instructions.{sequence}
use Rattle.wa_syntax.specs.Validity.{AreTyped}
use Rattle.wa_valid.specs.Names.{names_in}
use Rattle.wa_valid.specs.Operands.{stack, Leads}
use Rattle.wa_valid.proofs.instruction.+instructions.Given as goal

abbrev pub invariant-sequence-loop-instr : goal.invariant-sequence-loop-instr
invariant-sequence-loop-instr l = record {
  same : l.labels ≡ l.initial.labels;
  typed : Leads (AreTyped (names_in l.scope l.initial.labels) (sequence (take l.instr-index l.instrs))) (stack l.initial.operands) (stack l.operands);
}
