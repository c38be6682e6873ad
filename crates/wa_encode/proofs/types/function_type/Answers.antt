use Rattle.std.proofs.lemmas.Result.{on_ok_weaker}
use Rattle.wa_syntax.specs.BinaryInstructions.{valtype}
use Rattle.wa_encode.proofs.Adding.{Adds-last, Adds-vec-called}
use Rattle.wa_encode.proofs.types.function_type.Goals as goal

pub returns : goal.returns
returns c =
    Adds-last _ _ _ c.in_ok-byte.ensures (Adds-last _ _ _ (Adds-vec-called valtype _ _ _ _ _ c.as_slice.ensures (λ old shown new k. k) c.in_ok-vector.ensures)
    (on_ok_weaker _ (Adds-vec-called valtype _ _ _ _ _ c.as_slice-2.ensures (λ old shown new k. k)) c.vector-2.ensures))
