-- The levels fall with each block, and within one the calls go from a sequence down to what its instructions hold.
use Rattle.std.proofs.Common.{◌+◌, ◌*◌, ◌-◌, ◌≤◌, length}
use Rattle.wa_syntax.specs.BinaryInstructions.{instr}
use Rattle.wa_decode.proofs.Sequences.{Begun}
use Rattle.wa_decode.proofs.expression.+instructions.Given as goal

abbrev pub decreases-alternative : goal.decreases-alternative
decreases-alternative l = 4 * l.levels + 3

abbrev pub decreases-sequence : goal.decreases-sequence
decreases-sequence l = 4 * l.levels + 2

abbrev pub decreases-instruction : goal.decreases-instruction
decreases-instruction l = 4 * l.levels + 1

abbrev pub decreases-structured : goal.decreases-structured
decreases-structured l = 4 * l.levels

abbrev pub invariant-sequence-loop-alloc : goal.invariant-sequence-loop-alloc
invariant-sequence-loop-alloc l = record {
  forward : l.fn.at ≤ l.at;
  within : l.at ≤ length l.bytes;
  row : Begun (instr l.levels) l.bytes l.fn.at l.instrs.items l.at;
}

abbrev pub decreases-sequence-loop-alloc : goal.decreases-sequence-loop-alloc
decreases-sequence-loop-alloc l = length l.bytes - l.at
