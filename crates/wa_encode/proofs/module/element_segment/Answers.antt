use Rattle.std.proofs.lemmas.Result.{on_ok_weaker}
use Rattle.wa_syntax.specs.Formats.{u32}
use Rattle.wa_encode.proofs.Adding.{Adds-last, Adds-vec-called}
use Rattle.wa_encode.proofs.module.element_segment.Goals as goal

pub returns : goal.returns
returns c =
    Adds-last _ _ _ c.in_ok-number.ensures (Adds-last _ _ _ c.in_ok-constant_expression.ensures
    (on_ok_weaker _ (Adds-vec-called u32 _ _ _ _ _ c.as_slice.ensures (λ old shown new k. k)) c.vector.ensures))
