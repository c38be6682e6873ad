use Rattle.std.proofs.Common.{◌≢◌, ◌∙◌, sym, arith}
use Rattle.std.proofs.lemmas.Bool.Decides.{Decides-eqb}
use Rattle.std.proofs.lemmas.Slice.Eq.{slice_eq-Decides}
use Rattle.wa_text.proofs.Pieces.{no_rows, other_row, row_shown, rows_done}
use Rattle.wa_text.proofs.mnemonic.opcode_in.Goals as goal

pub returns-then-eq : goal.returns-then-eq
returns-then-eq c =
    let same = (slice_eq-Decides Decides-eqb c.as_bytes.result.now c.args.name.now c.eq.result c.eq.ensures).0 c.if-eq.true in
    row_shown c.args.table.now c.loop-opcode.opcode-index _ c.args.name.now (omega arith) (sym c.as_bytes.ensures.value ∙ same)

pub loop-opcode-init : goal.loop-opcode-init
loop-opcode-init c = no_rows c.args.table.now c.args.name.now

pub loop-opcode-preserved : goal.loop-opcode-preserved
loop-opcode-preserved c =
    let name = c.args.name.now in
    let differs : c.as_bytes.result.now ≢ name = λ same. let equal = (slice_eq-Decides Decides-eqb c.as_bytes.result.now name c.eq.result c.eq.ensures).1 same in let no : ⊥ = cc in no in
    other_row c.args.table.now c.loop-opcode.opcode-index _ name (omega arith) (λ same. differs (c.as_bytes.ensures.value ∙ same)) c.loop-opcode.invariant

pub returns : goal.returns
returns c = rows_done c.args.table.now c.loop-opcode.opcode-index c.args.name.now (omega arith) c.loop-opcode.invariant
