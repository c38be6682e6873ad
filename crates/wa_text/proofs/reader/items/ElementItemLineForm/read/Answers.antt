use Rattle.wa_syntax.specs.declared.module.ElemSegment.{ElemSegment}
use Rattle.wa_text.specs.Forms.{◌then◌, each}
use Rattle.wa_text.specs.Words.{u32}
use Rattle.wa_text.specs.Listing.{init}
use Rattle.std.proofs.Common.{ℕ, List, [], ◌∷◌, drop, refl, arith, subst}
use Rattle.std.proofs.lemmas.List.{take_rest}
use Rattle.wa_text.specs.Reading.{texts}
use Rattle.wa_text.proofs.Pieces.{three_words, no_word}
use Rattle.wa_text.proofs.NoItem.{elem_length, elem_parts}
use Rattle.wa_text.proofs.Refusals.{refuses_as, returned}
use Rattle.std.proofs.lemmas.List.{length-map}
use denote.Ref.{Bor}
use Rattle.wa_text.proofs.reader.items.ElementItemLineForm.read.Goals as goal

pub returns : goal.returns
returns c =
    let words = c.args.words.now in
    let parts = three_words words _ _ _ (omega arith) in
    let funcs = rw take_rest at c.in_ok-funcs.ensures in
    rw parts (_ ∷ [], _ ∷ _ ∷ texts (drop 3 words), refl, c.in_ok-table.ensures, (_ ∷ _ ∷ [], texts (drop 3 words), refl, c.in_ok-offset.ensures, funcs))

pub returns-in_err-table : goal.returns-in_err-table
returns-in_err-table c =
    let words = c.args.words.now in
    let parts = three_words words no_word no_word no_word (omega arith) in
    returned _ _ _ c.from_residual.ensures.1 (refuses_as u32 (λ (e : ElemSegment). u32 e.table then init e.offset then each u32 e.funcs) (texts words) (_ ∷ []) c.in_err-table.field-0.0 (λ e h. (e.table, (elem_parts e _ _ _ _ (subst (u32 e.table then init e.offset then each u32 e.funcs) parts h)).0)) c.in_err-table.ensures)

pub returns-in_err-offset : goal.returns-in_err-offset
returns-in_err-offset c =
    let words = c.args.words.now in
    let parts = three_words words no_word no_word no_word (omega arith) in
    returned _ _ _ c.from_residual-in_err-offset.ensures.1 (refuses_as init (λ (e : ElemSegment). u32 e.table then init e.offset then each u32 e.funcs) (texts words) (_ ∷ _ ∷ []) c.in_err-offset.field-0.0 (λ e h. (e.offset, (elem_parts e _ _ _ _ (subst (u32 e.table then init e.offset then each u32 e.funcs) parts h)).1)) c.in_err-offset.ensures)

pub returns-in_err-funcs : goal.returns-in_err-funcs
returns-in_err-funcs c =
    let words = c.args.words.now in
    let parts = three_words words no_word no_word no_word (omega arith) in
    let funcs = rw take_rest at c.in_err-funcs.ensures in
    returned _ _ _ c.from_residual-in_err-funcs.ensures.1 (refuses_as (each u32) (λ (e : ElemSegment). u32 e.table then init e.offset then each u32 e.funcs) (texts words) (texts (drop 3 words)) c.in_err-funcs.field-0.0 (λ e h. (e.funcs, (elem_parts e _ _ _ _ (subst (u32 e.table then init e.offset then each u32 e.funcs) parts h)).2)) funcs)

pub returns-in_default : goal.returns-in_default
returns-in_default c = λ v h. omega (arith, elem_length v (texts c.args.words.now) h, length-map c.args.words.now (λ (w : Bor (List ℕ)). w.now))
