use Rattle.std.proofs.Common.{refl}
use Rattle.wa_syntax.specs.Formats.{u32}
use Rattle.wa_encode.proofs.Adding.{Adds-last, Adds-vec-called}
use Rattle.wa_encode.proofs.instruction.br_table.Goals as goal

pub returns : goal.returns
returns c =
    Adds-last _ _ _ c.in_ok-byte.ensures (Adds-last _ _ _ (Adds-vec-called u32 _ _ _ _ _ refl (λ old shown new k. k) c.in_ok-vector.ensures) c.number.ensures)
