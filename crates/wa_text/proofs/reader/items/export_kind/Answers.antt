use Rattle.wa_text.specs.Listing.{exportdesc}
use Rattle.wa_text.specs.Words.{u32}
use Rattle.std.proofs.Common.{◌≡◌, List, ℕ, [], ◌∷◌, refl, ap, arith}
use Rattle.std.proofs.lemmas.Slice.Eq.{text_from_reads}
use Rattle.std.specs.Prelude.{codes}
use Rattle.wa_text.proofs.NoItem.{export_value}
use Rattle.wa_text.proofs.Refusals.{refuses_as, returned}
use Rattle.wa_text.proofs.reader.items.export_kind.Goals as goal

pub returns-in-memory : goal.returns-in-memory
returns-in-memory c =
    let is : c.args.kind.now ≡ codes "memory" = text_from_reads c.args.kind.now (codes "memory") (omega arith) (omega arith, (omega arith, (omega arith, (omega arith, (omega arith, (omega arith, tt)))))) in
    (c.args.kind.now ∷ [], c.args.value.now ∷ [], refl, ap (λ (w : List ℕ). w ∷ []) is, c.in_ok-value.ensures)

pub returns-in-global : goal.returns-in-global
returns-in-global c =
    let is : c.args.kind.now ≡ codes "global" = text_from_reads c.args.kind.now (codes "global") (omega arith) (omega arith, (omega arith, (omega arith, (omega arith, (omega arith, (omega arith, tt)))))) in
    (c.args.kind.now ∷ [], c.args.value.now ∷ [], refl, ap (λ (w : List ℕ). w ∷ []) is, c.in_ok-value.ensures)

pub returns-in_err-value : goal.returns-in_err-value
returns-in_err-value c =
    returned _ _ _ c.from_residual.ensures.1 (refuses_as u32 exportdesc (c.args.kind.now ∷ c.args.value.now ∷ []) (c.args.value.now ∷ []) c.in_err-value.field-0.0 (λ k h. export_value k c.args.kind.now c.args.value.now h) c.in_err-value.ensures)
