use Rattle.wa_text.proofs.Pieces.{IsAbsent}
use Rattle.wa_text.proofs.mnemonic.opcode_in.Given as goal

-- the name isn't in the rows so far
abbrev pub invariant-loop-opcode : goal.invariant-loop-opcode
invariant-loop-opcode l = IsAbsent l.table l.opcode-index l.name
