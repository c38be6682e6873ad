use Rattle.wa_text.proofs.Adding.{Adds-last}
use Rattle.wa_text.proofs.writer.types.global_type.Goals as goal

pub returns : goal.returns
returns c =
    Adds-last _ _ _ c.in_ok-value_type.ensures c.mutability.ensures
