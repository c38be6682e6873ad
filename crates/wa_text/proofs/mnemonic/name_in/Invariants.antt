use Rattle.std.proofs.Common.{◌≡◌, ℕ, List, drop, map}
use denote.Ref.{Bor}
use Rattle.wa_text.specs.Mnemonics.{name_in}
use Rattle.wa_text.proofs.mnemonic.name_in.Given as goal

-- the opcode isn't in the rows so far
abbrev pub invariant-loop-other : goal.invariant-loop-other
invariant-loop-other l =
    let shown : ℕ × Bor (List ℕ) → ℕ × List ℕ = λ row. (row.0, row.1.now) in
    name_in (map shown (drop l.other-index l.table)) l.opcode ≡ name_in (map shown l.table) l.opcode
