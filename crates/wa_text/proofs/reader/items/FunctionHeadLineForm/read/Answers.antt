use Rattle.wa_text.specs.declared.reader.items.FunctionHead.{FunctionHead}
use Rattle.wa_text.specs.Forms.{◌then◌}
use Rattle.wa_text.specs.Words.{u32}
use Rattle.wa_text.specs.Listing.{locals}
use Rattle.std.proofs.Common.{ℕ, List, arith, [], ◌∷◌, drop, subst}
use Rattle.std.proofs.lemmas.List.{length-map, take_rest}
use denote.Ref.{Bor}
use Rattle.wa_text.specs.Reading.{texts}
use Rattle.wa_text.proofs.NoItem.{head_length, head_parts}
use Rattle.wa_text.proofs.Pieces.{first_word, no_word}
use Rattle.wa_text.proofs.Refusals.{refuses_as, returned}
use Rattle.wa_text.proofs.reader.items.FunctionHeadLineForm.read.Goals as goal

pub returns-in_default : goal.returns-in_default
returns-in_default c = λ f h. omega (arith, head_length f.ty f.locals (texts c.args.words.now) h, length-map c.args.words.now (λ (w : Bor (List ℕ)). w.now))

pub returns-in_err-ty : goal.returns-in_err-ty
returns-in_err-ty c =
    let words = c.args.words.now in
    let parts = first_word words no_word (omega arith) in
    returned _ _ _ c.from_residual.ensures.1 (refuses_as u32 (λ (f : FunctionHead). u32 f.ty then locals f.locals) (texts words) (_ ∷ []) c.in_err-ty.field-0.0 (λ f h. (f.ty, (head_parts f.ty f.locals _ _ (subst (u32 f.ty then locals f.locals) parts h)).0)) c.in_err-ty.ensures)

pub returns-in_err-locals : goal.returns-in_err-locals
returns-in_err-locals c =
    let words = c.args.words.now in
    let parts = first_word words no_word (omega arith) in
    let types = rw take_rest at c.in_err-locals.ensures in
    returned _ _ _ c.from_residual-in_err-locals.ensures.1 (refuses_as locals (λ (f : FunctionHead). u32 f.ty then locals f.locals) (texts words) (texts (drop 1 words)) c.in_err-locals.field-0.0 (λ f h. (f.locals, (head_parts f.ty f.locals _ _ (subst (u32 f.ty then locals f.locals) parts h)).1)) types)
