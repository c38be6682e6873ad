use Rattle.wa_syntax.specs.declared.module.GlobalDef.{GlobalDef}
use Rattle.wa_text.specs.Forms.{◌then◌}
use Rattle.wa_text.specs.Listing.{globaltype, init}
use Rattle.std.proofs.Common.{ℕ, List, [], ◌∷◌, refl, arith, subst}
use Rattle.wa_text.proofs.Pieces.{four_words, no_word}
use Rattle.wa_text.proofs.NoItem.{global_words, global_parts}
use Rattle.wa_text.proofs.Refusals.{refuses_as, returned}
use Rattle.std.proofs.lemmas.List.{length-map}
use denote.Ref.{Bor}
use Rattle.wa_text.specs.Reading.{texts}
use Rattle.wa_text.proofs.reader.items.GlobalItemLineForm.read.Goals as goal

pub returns : goal.returns
returns c =
    let words = c.args.words.now in
    let parts = four_words words _ _ _ _ (omega arith) in
    rw parts (_ ∷ _ ∷ [], _ ∷ _ ∷ [], refl, c.in_ok-global_type.ensures, c.in_ok-initial_value.ensures)

pub returns-in_err-global_type : goal.returns-in_err-global_type
returns-in_err-global_type c =
    let words = c.args.words.now in
    let parts = four_words words no_word no_word no_word no_word (omega arith) in
    returned _ _ _ c.from_residual.ensures.1 (refuses_as globaltype (λ (g : GlobalDef). globaltype g.ty then init g.init) (texts words) (_ ∷ _ ∷ []) c.in_err-global_type.field-0.0 (λ g h. (g.ty, (global_parts g _ _ _ _ (subst (globaltype g.ty then init g.init) parts h)).0)) c.in_err-global_type.ensures)

pub returns-in_err-initial_value : goal.returns-in_err-initial_value
returns-in_err-initial_value c =
    let words = c.args.words.now in
    let parts = four_words words no_word no_word no_word no_word (omega arith) in
    returned _ _ _ c.from_residual-in_err-initial_value.ensures.1 (refuses_as init (λ (g : GlobalDef). globaltype g.ty then init g.init) (texts words) (_ ∷ _ ∷ []) c.in_err-initial_value.field-0.0 (λ g h. (g.init, (global_parts g _ _ _ _ (subst (globaltype g.ty then init g.init) parts h)).1)) c.in_err-initial_value.ensures)

pub returns-in_default : goal.returns-in_default
returns-in_default c = λ v h. omega (arith, global_words v (texts c.args.words.now) h, length-map c.args.words.now (λ (w : Bor (List ℕ)). w.now))
