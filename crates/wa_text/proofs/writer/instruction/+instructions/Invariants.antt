use Rattle.std.proofs.Common.{ℕ, ◌+◌, ◌*◌, List, drop}
use Rattle.wa_text.specs.Forms.{each}
use Rattle.wa_text.specs.Instructions.{instr}
use Rattle.wa_text.specs.Writing.{AddsLines}
use Rattle.wa_text.proofs.Weights.{weight, weights}
use Rattle.wa_text.proofs.writer.instruction.+instructions.Given as goal

abbrev pub decreases-instruction : goal.decreases-instruction
decreases-instruction l = 4 * weight l.instr.now

abbrev pub decreases-sequence : goal.decreases-sequence
decreases-sequence l = 4 * weights l.instrs.now + 1

abbrev pub decreases-expression : goal.decreases-expression
decreases-expression l = 4 * weights l.body.now + 2

abbrev pub decreases-else_end : goal.decreases-else_end
decreases-else_end l = 4 * weights l.otherwise.now + 3

abbrev pub invariant-sequence-loop-instr : goal.invariant-sequence-loop-instr
invariant-sequence-loop-instr l =
    (levels : ℕ) (last : List ℕ)
    → AddsLines (each (instr levels) (drop l.instr-index l.instrs)) l.out.items last
    → AddsLines (each (instr levels) l.instrs) l.initial.out.items last
