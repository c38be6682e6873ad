use Rattle.std.proofs.lemmas.Result.{on_ok_weaker}
use Rattle.wa_syntax.specs.BinaryInstructions.{IsAccess}
use Rattle.wa_encode.proofs.Adding.{Adds-last}
use Rattle.wa_encode.proofs.Productions.{Adds-given}
use Rattle.wa_encode.proofs.instruction.load_or_store.Goals as goal

pub returns : goal.returns
returns c =
    on_ok_weaker _ (Adds-given (IsAccess c.args.opcode)) (Adds-last _ _ _ c.in_ok-byte.ensures (Adds-last _ _ _ c.in_ok-number.ensures c.number-2.ensures))
