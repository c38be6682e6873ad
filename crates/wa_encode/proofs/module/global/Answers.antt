use Rattle.wa_encode.proofs.Adding.{Adds-last}
use Rattle.wa_encode.proofs.module.global.Goals as goal

pub returns : goal.returns
returns c = Adds-last _ _ _ c.in_ok-global_type.ensures c.constant_expression.ensures
