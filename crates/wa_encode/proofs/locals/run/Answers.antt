use Rattle.wa_encode.proofs.Adding.{Adds-last}
use Rattle.wa_encode.proofs.locals.run.Goals as goal

pub returns : goal.returns
returns c = Adds-last _ _ _ c.in_ok-number.ensures c.value_type.ensures
