use Rattle.wa_syntax.proofs.Shortest.{IsWritten}
use Rattle.wa_syntax.proofs.leb128.unsigned_bytes.Given as goal

abbrev pub invariant-loop-rest : goal.invariant-loop-rest
invariant-loop-rest l = IsWritten l.bytes l.len l.rest l.v

abbrev pub decreases-loop-rest : goal.decreases-loop-rest
decreases-loop-rest l = l.rest
