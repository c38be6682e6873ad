use Rattle.std.proofs.Common.{◌-◌}
use Rattle.wa_syntax.proofs.Shortest.{IsWrittenSigned}
use Rattle.wa_syntax.proofs.leb128.signed_bytes.Given as goal

abbrev pub invariant-loop-rest : goal.invariant-loop-rest
invariant-loop-rest l = IsWrittenSigned l.bytes l.len l.rest l.v

abbrev pub decreases-loop-rest : goal.decreases-loop-rest
decreases-loop-rest l = 10 - l.len
