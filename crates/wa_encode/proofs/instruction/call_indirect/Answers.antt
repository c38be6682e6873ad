use Rattle.wa_encode.proofs.Adding.{Adds-last}
use Rattle.wa_encode.proofs.instruction.call_indirect.Goals as goal

pub returns : goal.returns
returns c = Adds-last _ _ _ c.in_ok-byte.ensures (Adds-last _ _ _ c.in_ok-number.ensures c.byte-2.ensures)
