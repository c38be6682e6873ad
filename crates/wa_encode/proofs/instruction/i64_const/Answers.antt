use Rattle.std.proofs.Common.{arith}
use Rattle.std.proofs.lemmas.Result.{on_ok_weaker}
use Rattle.wa_encode.proofs.Adding.{Adds-last}
use Rattle.wa_encode.proofs.Numbers.{Adds-i64}
use Rattle.wa_encode.proofs.instruction.i64_const.Goals as goal

pub returns : goal.returns
returns c =
    Adds-last _ _ _ c.in_ok-byte.ensures (on_ok_weaker _ (Adds-i64 c.args.bits c.cast_signed.result _ _ c.cast_signed.ensures (omega arith)) c.write_i64.ensures.ok)
