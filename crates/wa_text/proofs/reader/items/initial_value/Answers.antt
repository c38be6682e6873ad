use Rattle.wa_text.specs.Listing.{init}
use Rattle.wa_text.specs.Words.{u32, u64}
use Rattle.std.proofs.Common.{◌≡◌, arith, [], ◌∷◌}
use Rattle.std.proofs.lemmas.Slice.Eq.{text_from_reads}
use Rattle.std.specs.Prelude.{codes}
use Rattle.wa_text.proofs.NoItem.{init_get, init_i32, init_i64}
use Rattle.wa_text.proofs.Refusals.{refuses_as, returned}
use Rattle.wa_text.proofs.reader.items.initial_value.Goals as goal

pub returns-in_err-index-in-i32 : goal.returns-in_err-index-in-i32
returns-in_err-index-in-i32 c =
    let kind = c.args.kind.now in
    let is : kind ≡ codes "i32" = text_from_reads kind (codes "i32") (omega arith) (omega arith, (omega arith, (omega arith, tt))) in
    returned _ _ _ c.from_residual.ensures.1 (refuses_as u32 init (kind ∷ c.args.value.now ∷ []) (c.args.value.now ∷ []) c.in_err-index-in-i32.field-0.0 (λ i h. init_i32 i kind c.args.value.now is h) c.in_err-index-in-i32.ensures)

pub returns-in_err-number-in-i64 : goal.returns-in_err-number-in-i64
returns-in_err-number-in-i64 c =
    let kind = c.args.kind.now in
    let is : kind ≡ codes "i64" = text_from_reads kind (codes "i64") (omega arith) (omega arith, (omega arith, (omega arith, tt))) in
    returned _ _ _ c.from_residual-in_err-number-in-i64.ensures.1 (refuses_as u64 init (kind ∷ c.args.value.now ∷ []) (c.args.value.now ∷ []) c.in_err-number-in-i64.field-0.0 (λ i h. init_i64 i kind c.args.value.now is h) c.in_err-number-in-i64.ensures)

pub returns-in_err-index-in-get : goal.returns-in_err-index-in-get
returns-in_err-index-in-get c =
    let kind = c.args.kind.now in
    let is : kind ≡ codes "get" = text_from_reads kind (codes "get") (omega arith) (omega arith, (omega arith, (omega arith, tt))) in
    returned _ _ _ c.from_residual-in_err-index-in-get.ensures.1 (refuses_as u32 init (kind ∷ c.args.value.now ∷ []) (c.args.value.now ∷ []) c.in_err-index-in-get.field-0.0 (λ i h. init_get i kind c.args.value.now is h) c.in_err-index-in-get.ensures)
