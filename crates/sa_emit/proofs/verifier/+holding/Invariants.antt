use Rattle.std.proofs.Common.{◌≡◌, drop}
use Rattle.wa_syntax.specs.Instructions.{sequence}
use Rattle.sa_emit.specs.Tables.{holds_table}
use Rattle.sa_emit.proofs.verifier.+holding.Given as goal

abbrev pub invariant-holds_table-loop-instr : goal.invariant-holds_table-loop-instr
invariant-holds_table-loop-instr l = holds_table (sequence l.code) ≡ holds_table (sequence (drop l.instr-index l.code))
