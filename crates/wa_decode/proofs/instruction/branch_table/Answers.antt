use Rattle.std.proofs.Common.{ℕ, List, refl, sym, ◌∙◌}
use Rattle.wa_syntax.specs.declared.instr.Instr.TheOpen.{Instr-F}
use Rattle.wa_syntax.specs.declared.instr.Instr.TheVariants as i
use Rattle.wa_syntax.specs.Formats.{u32}
use Rattle.wa_decode.proofs.Layers.{following-ok, following-err, instr-ok, instr-err, arm-BrTable}
use Rattle.wa_decode.proofs.Reading.{pair-ok, pair-err, pair-none, returned}
use Rattle.wa_decode.proofs.instruction.branch_table.Goals as goal

pub returns-in_err-labels-clause-reads : goal.returns-in_err-labels-clause-reads
returns-in_err-labels-clause-reads c = λ levels.
    returned _ c.from_residual.ensures.1
    (instr-err levels (λ Body. following-err 0x0e (λ u. Instr-F.BrTable u) (arm-BrTable Body) refl (pair-none u32 c.in_err-labels.ensures.reads)))

pub returns-in_err-default-clause-reads : goal.returns-in_err-default-clause-reads
returns-in_err-default-clause-reads c = λ levels.
    returned _ c.from_residual-in_err-default.ensures.1
    (instr-err levels (λ Body.
    following-err 0x0e (λ u. Instr-F.BrTable u) (arm-BrTable Body) refl (pair-err c.in_ok-labels.ensures.reads c.in_err-default.ensures.reads)))

pub returns-clause-reads : goal.returns-clause-reads
returns-clause-reads c = λ levels.
    let table : List ℕ × ℕ = (c.in_ok-labels.labels, c.in_ok-default.default) in
    instr-ok levels (Instr-F.BrTable table) _ (i.rolls-BrTable table ∙ sym c.in_ok-br_table_of.ensures)
    (λ Body.
    following-ok 0x0e (λ u. Instr-F.BrTable u) (arm-BrTable Body) refl (pair-ok c.in_ok-labels.ensures.reads c.in_ok-default.ensures.reads))
