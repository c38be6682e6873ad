use Rattle.wa_text.specs.Listing.{globaltype, importdesc, limits}
use Rattle.wa_text.specs.Words.{u32}
use Rattle.std.proofs.Common.{◌≡◌, List, ℕ, [], ◌∷◌, refl, ap, arith}
use Rattle.std.proofs.lemmas.Slice.Eq.{text_from_reads}
use Rattle.std.specs.Prelude.{codes}
use Rattle.wa_text.specs.Reading.{texts}
use Rattle.wa_text.proofs.NoItem.{import_func, import_global, import_memory, import_table}
use Rattle.wa_text.proofs.Refusals.{refuses_as, returned}
use Rattle.wa_text.proofs.reader.items.import_kind.Goals as goal

pub returns-in_err-only_index-in-func : goal.returns-in_err-only_index-in-func
returns-in_err-only_index-in-func c =
    let kind = c.args.kind.now in
    let is : kind ≡ codes "func" = text_from_reads kind (codes "func") (omega arith) (omega arith, (omega arith, (omega arith, (omega arith, tt)))) in
    returned _ _ _ c.from_residual.ensures.1 (refuses_as u32 importdesc (kind ∷ texts c.args.words.now) (texts c.args.words.now) c.in_err-only_index-in-func.field-0.0 (λ k h. import_func k kind (texts c.args.words.now) is h) c.in_err-only_index-in-func.ensures)

pub returns-in_err-limits-in-table : goal.returns-in_err-limits-in-table
returns-in_err-limits-in-table c =
    let kind = c.args.kind.now in
    let is : kind ≡ codes "table" = text_from_reads kind (codes "table") (omega arith) (omega arith, (omega arith, (omega arith, (omega arith, (omega arith, tt))))) in
    returned _ _ _ c.from_residual-in_err-limits-in-table.ensures.1 (refuses_as limits importdesc (kind ∷ texts c.args.words.now) (texts c.args.words.now) c.in_err-limits-in-table.field-0.0 (λ k h. import_table k kind (texts c.args.words.now) is h) c.in_err-limits-in-table.ensures)

pub returns-in_err-limits-in-memory : goal.returns-in_err-limits-in-memory
returns-in_err-limits-in-memory c =
    let kind = c.args.kind.now in
    let is : kind ≡ codes "memory" = text_from_reads kind (codes "memory") (omega arith) (omega arith, (omega arith, (omega arith, (omega arith, (omega arith, (omega arith, tt)))))) in
    returned _ _ _ c.from_residual-in_err-limits-in-memory.ensures.1 (refuses_as limits importdesc (kind ∷ texts c.args.words.now) (texts c.args.words.now) c.in_err-limits-in-memory.field-0.0 (λ k h. import_memory k kind (texts c.args.words.now) is h) c.in_err-limits-in-memory.ensures)

pub returns-in_ok-limits-in-memory : goal.returns-in_ok-limits-in-memory
returns-in_ok-limits-in-memory c =
    let kind = c.args.kind.now in
    let is : kind ≡ codes "memory" = text_from_reads kind (codes "memory") (omega arith) (omega arith, (omega arith, (omega arith, (omega arith, (omega arith, (omega arith, tt)))))) in
    (kind ∷ [], texts c.args.words.now, refl, ap (λ (w : List ℕ). w ∷ []) is, c.in_ok-limits-in-memory.ensures)

pub returns-in_err-only_global_type-in-global : goal.returns-in_err-only_global_type-in-global
returns-in_err-only_global_type-in-global c =
    let kind = c.args.kind.now in
    let is : kind ≡ codes "global" = text_from_reads kind (codes "global") (omega arith) (omega arith, (omega arith, (omega arith, (omega arith, (omega arith, (omega arith, tt)))))) in
    returned _ _ _ c.from_residual-in_err-only_global_type-in-global.ensures.1 (refuses_as globaltype importdesc (kind ∷ texts c.args.words.now) (texts c.args.words.now) c.in_err-only_global_type-in-global.field-0.0 (λ k h. import_global k kind (texts c.args.words.now) is h) c.in_err-only_global_type-in-global.ensures)

pub returns-in_ok-only_global_type-in-global : goal.returns-in_ok-only_global_type-in-global
returns-in_ok-only_global_type-in-global c =
    let kind = c.args.kind.now in
    let is : kind ≡ codes "global" = text_from_reads kind (codes "global") (omega arith) (omega arith, (omega arith, (omega arith, (omega arith, (omega arith, (omega arith, tt)))))) in
    (kind ∷ [], texts c.args.words.now, refl, ap (λ (w : List ℕ). w ∷ []) is, c.in_ok-only_global_type-in-global.ensures)
