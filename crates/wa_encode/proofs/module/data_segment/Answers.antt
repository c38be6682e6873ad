use Rattle.std.proofs.lemmas.Result.{on_ok_weaker}
use Rattle.wa_encode.proofs.Adding.{Adds-last}
use Rattle.wa_encode.proofs.Productions.{Adds-bytes_of}
use Rattle.wa_encode.proofs.module.data_segment.Goals as goal

pub returns : goal.returns
returns c =
    Adds-last _ _ _ c.in_ok-number.ensures (Adds-last _ _ _ c.in_ok-constant_expression.ensures (on_ok_weaker _ (Adds-bytes_of _ _ _ _ c.as_slice.ensures) c.bytes.ensures))
