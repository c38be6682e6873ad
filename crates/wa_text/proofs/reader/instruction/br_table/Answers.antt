use Rattle.wa_text.specs.Forms.{each}
use Rattle.wa_text.specs.Words.{u32}
use Rattle.std.proofs.Common.{ℕ, List, [], ◌∷◌, ◌++◌, refl, sym, ◌∙◌}
use Rattle.std.specs.Prelude.{codes}
use Rattle.wa_syntax.specs.declared.instr.Instr.TheOpen.{Instr-F}
use Rattle.wa_syntax.specs.declared.instr.Instr.TheVariants as variant
use Rattle.wa_text.specs.Reading.{texts, whole}
use Rattle.wa_syntax.specs.declared.instr.Instr.{out-Instr}
use Rattle.wa_text.proofs.Lines.{single}
use Rattle.wa_text.proofs.NoInstruction.{labels_of, simple}
use Rattle.wa_text.proofs.Refusals.{refuses_as, returned}
use Rattle.wa_text.proofs.reader.instruction.br_table.Goals as goal

pub returns : goal.returns
returns c =
    let labels = texts c.args.labels.now in
    let last = c.args.default.now ∷ [] in
    let name = codes "br_table" in
    let targets : List ℕ × ℕ = (c.in_ok-labels.labels, c.in_ok-default.default) in
    single _ (Instr-F.BrTable targets) ((name ∷ labels ++ last) ∷ []) (variant.rolls-BrTable targets ∙ sym c.in_ok-br_table_of.ensures)
    (λ Body. (name ∷ labels ++ last, (name ∷ [], labels ++ last, refl, refl, (labels, last, refl, c.in_ok-labels.ensures, c.in_ok-default.ensures)), refl))

pub returns-in_err-default : goal.returns-in_err-default
returns-in_err-default c =
    let labels = texts c.args.labels.now in
    let default = c.args.default.now in
    returned _ _ _ c.from_residual.ensures.1 (refuses_as u32 whole (codes "br_table" ∷ labels ++ default ∷ []) (default ∷ []) c.in_err-default.field-0.0 (λ i h. let k = labels_of (out-Instr i) labels default (simple i (codes "br_table") (labels ++ default ∷ []) h) in (k.1, k.3)) c.in_err-default.ensures)

pub returns-in_err-labels : goal.returns-in_err-labels
returns-in_err-labels c =
    let labels = texts c.args.labels.now in
    let default = c.args.default.now in
    returned _ _ _ c.from_residual-in_err-labels.ensures.1 (refuses_as (each u32) whole (codes "br_table" ∷ labels ++ default ∷ []) labels c.in_err-labels.field-0.0 (λ i h. let k = labels_of (out-Instr i) labels default (simple i (codes "br_table") (labels ++ default ∷ []) h) in (k.0, k.2)) c.in_err-labels.ensures)
