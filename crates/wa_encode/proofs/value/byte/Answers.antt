use Rattle.wa_encode.proofs.Adding.{Adds-byte}
use Rattle.wa_encode.proofs.value.byte.Goals as goal

pub returns : goal.returns
returns c = Adds-byte _ _ _ c.in_ok-push.ensures.items
