use Rattle.wa_syntax.specs.declared.module.DataSegment.{DataSegment}
use Rattle.wa_text.specs.Forms.{◌then◌}
use Rattle.wa_text.specs.Words.{bytes, u32}
use Rattle.wa_text.specs.Listing.{init}
use Rattle.std.proofs.Common.{ℕ, List, [], ◌∷◌, refl, arith, subst}
use denote.Ref.{Bor}
use Rattle.wa_text.proofs.Pieces.{four_words, no_word}
use Rattle.wa_text.proofs.NoItem.{segment_length, segment_parts}
use Rattle.wa_text.proofs.Refusals.{refuses_as, returned}
use Rattle.std.proofs.lemmas.List.{length-map}
use Rattle.wa_text.specs.Reading.{texts}
use Rattle.wa_text.proofs.reader.items.SegmentItemLineForm.read.Goals as goal

pub returns : goal.returns
returns c =
    let words = c.args.words.now in
    let parts = four_words words no_word no_word no_word no_word (omega arith) in
    rw parts (_ ∷ [], _ ∷ _ ∷ _ ∷ [], refl, c.in_ok-memory.ensures, (_ ∷ _ ∷ [], _ ∷ [], refl, c.in_ok-offset.ensures, rw c.from_vec-bytes.ensures c.in_ok-bytes.ensures))

pub returns-in_err-memory : goal.returns-in_err-memory
returns-in_err-memory c =
    let words = c.args.words.now in
    let parts = four_words words no_word no_word no_word no_word (omega arith) in
    returned _ _ _ c.from_residual.ensures.1 (refuses_as u32 (λ (s : DataSegment). u32 s.memory then init s.offset then bytes s.bytes) (texts words) (_ ∷ []) c.in_err-memory.field-0.0 (λ x h. (x.memory, (segment_parts x _ _ _ _ (subst (u32 x.memory then init x.offset then bytes x.bytes) parts h)).0)) c.in_err-memory.ensures)

pub returns-in_err-offset : goal.returns-in_err-offset
returns-in_err-offset c =
    let words = c.args.words.now in
    let parts = four_words words no_word no_word no_word no_word (omega arith) in
    returned _ _ _ c.from_residual-in_err-offset.ensures.1 (refuses_as init (λ (s : DataSegment). u32 s.memory then init s.offset then bytes s.bytes) (texts words) (_ ∷ _ ∷ []) c.in_err-offset.field-0.0 (λ x h. (x.offset, (segment_parts x _ _ _ _ (subst (u32 x.memory then init x.offset then bytes x.bytes) parts h)).1)) c.in_err-offset.ensures)

pub returns-in_err-bytes : goal.returns-in_err-bytes
returns-in_err-bytes c =
    let words = c.args.words.now in
    let parts = four_words words no_word no_word no_word no_word (omega arith) in
    returned _ _ _ c.from_residual-in_err-bytes.ensures.1 (refuses_as bytes (λ (s : DataSegment). u32 s.memory then init s.offset then bytes s.bytes) (texts words) (_ ∷ []) c.in_err-bytes.field-0.0 (λ x h. (x.bytes, (segment_parts x _ _ _ _ (subst (u32 x.memory then init x.offset then bytes x.bytes) parts h)).2)) c.in_err-bytes.ensures)

pub returns-in_default : goal.returns-in_default
returns-in_default c = λ v h. grind (arith, segment_length v (texts c.args.words.now) h, length-map c.args.words.now (λ (w : Bor (List ℕ)). w.now))
