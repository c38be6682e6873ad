use Rattle.wa_encode.proofs.Productions.{Adds-plain}
use Rattle.wa_encode.proofs.instruction.plain.Goals as goal

pub returns : goal.returns
returns c = Adds-plain c.args.opcode _ _ c.if-opcode-eq-MEMORY_SIZE.false c.if-opcode-eq-MEMORY_GROW.false c.in_ok-byte.ensures
