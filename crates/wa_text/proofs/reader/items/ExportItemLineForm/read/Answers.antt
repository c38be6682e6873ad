use Rattle.wa_syntax.specs.declared.module.Export.{Export}
use Rattle.wa_text.specs.Forms.{◌then◌}
use Rattle.wa_text.specs.Words.{name}
use Rattle.wa_text.specs.Listing.{exportdesc}
use Rattle.std.proofs.Common.{ℕ, List, arith, [], ◌∷◌, subst}
use Rattle.std.proofs.lemmas.List.{length-map}
use denote.Ref.{Bor}
use Rattle.wa_text.specs.Reading.{texts}
use Rattle.wa_text.proofs.NoItem.{export_length, export_parts}
use Rattle.wa_text.proofs.Pieces.{three_only, no_word}
use Rattle.wa_text.proofs.Refusals.{refuses_as, returned}
use Rattle.wa_text.proofs.reader.items.ExportItemLineForm.read.Goals as goal

pub returns-in_default : goal.returns-in_default
returns-in_default c = λ e h. grind (arith, export_length e (texts c.args.words.now) h, length-map c.args.words.now (λ (w : Bor (List ℕ)). w.now))

pub returns-in_err-kind : goal.returns-in_err-kind
returns-in_err-kind c =
    let words = c.args.words.now in
    let parts = three_only words no_word no_word no_word (omega arith) in
    returned _ _ _ c.from_residual.ensures.1 (refuses_as exportdesc (λ (e : Export). name e.name then exportdesc e.kind) (texts words) (_ ∷ _ ∷ []) c.in_err-kind.field-0.0 (λ e h. (e.kind, (export_parts e _ _ (subst (name e.name then exportdesc e.kind) parts h)).1)) c.in_err-kind.ensures)

pub returns-in_err-name : goal.returns-in_err-name
returns-in_err-name c =
    let words = c.args.words.now in
    let parts = three_only words no_word no_word no_word (omega arith) in
    returned _ _ _ c.from_residual-in_err-name.ensures.1 (refuses_as name (λ (e : Export). name e.name then exportdesc e.kind) (texts words) (_ ∷ []) c.in_err-name.field-0.0 (λ e h. (e.name, (export_parts e _ _ (subst (name e.name then exportdesc e.kind) parts h)).0)) c.in_err-name.ensures)
