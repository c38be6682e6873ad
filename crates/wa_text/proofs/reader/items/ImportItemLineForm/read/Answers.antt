use Rattle.wa_syntax.specs.declared.module.Import.{Import}
use Rattle.wa_text.specs.Forms.{◌then◌}
use Rattle.wa_text.specs.Words.{name}
use Rattle.wa_text.specs.Listing.{importdesc}
use Rattle.std.proofs.Common.{ℕ, List, [], ◌∷◌, drop, refl, arith, subst}
use Rattle.std.proofs.lemmas.List.{take_rest}
use Rattle.wa_text.specs.Reading.{texts}
use Rattle.wa_text.proofs.Pieces.{three_words, no_word}
use Rattle.wa_text.proofs.NoItem.{import_length, import_parts}
use Rattle.wa_text.proofs.Refusals.{refuses_as, returned}
use Rattle.std.proofs.lemmas.List.{length-map}
use denote.Ref.{Bor}
use Rattle.wa_text.proofs.reader.items.ImportItemLineForm.read.Goals as goal

pub returns : goal.returns
returns c =
    let words = c.args.words.now in
    let parts = three_words words _ _ _ (omega arith) in
    let kind = rw take_rest at c.in_ok-kind.ensures in
    rw parts (_ ∷ [], _ ∷ _ ∷ texts (drop 3 words), refl, c.in_ok-module.ensures, (_ ∷ [], _ ∷ texts (drop 3 words), refl, c.in_ok-name.ensures, kind))

pub returns-in_err-kind : goal.returns-in_err-kind
returns-in_err-kind c =
    let words = c.args.words.now in
    let parts = three_words words no_word no_word no_word (omega arith) in
    let kind = rw take_rest at c.in_err-kind.ensures in
    returned _ _ _ c.from_residual.ensures.1 (refuses_as importdesc (λ (i : Import). name i.«module» then name i.name then importdesc i.kind) (texts words) (_ ∷ texts (drop 3 words)) c.in_err-kind.field-0.0 (λ i h. (i.kind, (import_parts i _ _ _ (subst (name i.«module» then name i.name then importdesc i.kind) parts h)).2)) kind)

pub returns-in_err-module : goal.returns-in_err-module
returns-in_err-module c =
    let words = c.args.words.now in
    let parts = three_words words no_word no_word no_word (omega arith) in
    returned _ _ _ c.from_residual-in_err-module.ensures.1 (refuses_as name (λ (i : Import). name i.«module» then name i.name then importdesc i.kind) (texts words) (_ ∷ []) c.in_err-module.field-0.0 (λ i h. (i.«module», (import_parts i _ _ _ (subst (name i.«module» then name i.name then importdesc i.kind) parts h)).0)) c.in_err-module.ensures)

pub returns-in_err-name : goal.returns-in_err-name
returns-in_err-name c =
    let words = c.args.words.now in
    let parts = three_words words no_word no_word no_word (omega arith) in
    returned _ _ _ c.from_residual-in_err-name.ensures.1 (refuses_as name (λ (i : Import). name i.«module» then name i.name then importdesc i.kind) (texts words) (_ ∷ []) c.in_err-name.field-0.0 (λ i h. (i.name, (import_parts i _ _ _ (subst (name i.«module» then name i.name then importdesc i.kind) parts h)).1)) c.in_err-name.ensures)

pub returns-in_default : goal.returns-in_default
returns-in_default c = λ v h. omega (arith, import_length v (texts c.args.words.now) h, length-map c.args.words.now (λ (w : Bor (List ℕ)). w.now))
