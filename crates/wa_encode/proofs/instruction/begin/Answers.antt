use Rattle.wa_encode.proofs.Adding.{Adds-last}
use Rattle.wa_encode.proofs.instruction.begin.Goals as goal

pub returns : goal.returns
returns c = Adds-last _ _ _ c.in_ok-byte.ensures c.block_type.ensures
