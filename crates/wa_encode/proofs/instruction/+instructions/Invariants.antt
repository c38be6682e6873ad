use Rattle.std.proofs.Common.{ℕ, ◌+◌, ◌*◌, List, drop}
use Rattle.wa_syntax.specs.Formats.{each}
use Rattle.wa_syntax.specs.BinaryInstructions.{instr}
use Rattle.wa_encode.specs.Spelling.{Adds}
use Rattle.wa_encode.proofs.Weights.{weight, weights}
use Rattle.wa_encode.proofs.instruction.+instructions.Given as goal

abbrev pub decreases-instruction : goal.decreases-instruction
decreases-instruction l = 4 * weight l.instr.now

abbrev pub decreases-sequence : goal.decreases-sequence
decreases-sequence l = 4 * weights l.instrs.now + 1

abbrev pub decreases-expression : goal.decreases-expression
decreases-expression l = 4 * weights l.body.now + 2

abbrev pub decreases-else_branch : goal.decreases-else_branch
decreases-else_branch l = 4 * weights l.otherwise.now + 3

abbrev pub invariant-sequence-loop-instr : goal.invariant-sequence-loop-instr
invariant-sequence-loop-instr l =
    (levels : ℕ) (last : List ℕ)
    → Adds (each (instr levels) (drop l.instr-index l.instrs)) l.out.items last
    → Adds (each (instr levels) l.instrs) l.initial.out.items last
