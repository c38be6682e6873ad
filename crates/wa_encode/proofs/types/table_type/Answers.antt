use Rattle.wa_encode.proofs.Adding.{Adds-last}
use Rattle.wa_encode.proofs.types.table_type.Goals as goal

pub returns : goal.returns
returns c = Adds-last _ _ _ c.in_ok-byte.ensures c.limits.ensures
