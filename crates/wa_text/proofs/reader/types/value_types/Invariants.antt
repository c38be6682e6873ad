use Rattle.std.proofs.Common.{length}
use Rattle.wa_text.specs.Forms.{◌then◌, each, exactly}
use Rattle.wa_text.specs.Reading.{texts}
use Rattle.wa_text.specs.Words.{val}
use Rattle.wa_text.proofs.reader.types.value_types.Given as goal

-- the types so far, and the words that are left
abbrev pub invariant-loop-rest : goal.invariant-loop-rest
invariant-loop-rest l = (each val l.types then exactly (texts l.rest)) (texts l.words)

abbrev pub decreases-loop-rest : goal.decreases-loop-rest
decreases-loop-rest l = length l.rest
