-- The levels fall with each block, and within one the calls go from what follows a first line down to the next instruction.
use Rattle.std.proofs.Common.{◌+◌, ◌*◌, ◌-◌, ◌≤◌, length}
use Rattle.wa_text.specs.Forms.{each}
use Rattle.wa_text.specs.Instructions.{instr}
use Rattle.wa_text.specs.Reading.{Spelled}
use Rattle.wa_text.proofs.reader.expression.+instructions.Given as goal

abbrev pub decreases-instruction : goal.decreases-instruction
decreases-instruction l = 5 * l.levels

abbrev pub decreases-sequence : goal.decreases-sequence
decreases-sequence l = 5 * l.levels + 1

abbrev pub decreases-else_end : goal.decreases-else_end
decreases-else_end l = 5 * l.levels + 2

abbrev pub decreases-structured : goal.decreases-structured
decreases-structured l = 5 * l.levels + 3

abbrev pub invariant-sequence-loop-alloc : goal.invariant-sequence-loop-alloc
invariant-sequence-loop-alloc l = record {
  forward : l.fn.at ≤ l.at;
  within : l.at ≤ length l.text;
  row : Spelled (each (instr l.levels) l.instrs) l.text l.fn.at l.at;
}

abbrev pub decreases-sequence-loop-alloc : goal.decreases-sequence-loop-alloc
decreases-sequence-loop-alloc l = length l.text - l.at
