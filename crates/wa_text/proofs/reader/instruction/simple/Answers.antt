use Rattle.std.proofs.Common.{◌≢◌, arith, ◌∙◌, sym, ap, subst, true, ◌≡◌, ℕ, List, [], ◌∷◌}
use Rattle.std.proofs.lemmas.Bool.Decides.{Decides-eqb}
use Rattle.std.proofs.lemmas.List.{length-map}
use Rattle.std.proofs.lemmas.Slice.Eq.{slice_eq-Decides}
use Rattle.std.specs.Prelude.{codes}
use denote.Ref.{Bor}
use Rattle.wa_syntax.specs.declared.instr.Instr.{out-Instr}
use Rattle.wa_text.specs.Reading.{Reads, texts, whole}
use Rattle.wa_text.specs.Words.{Line, Word}
use Rattle.wa_text.proofs.NoInstruction.{Simple, no_labels, simple, simple_length, whole_as}
use Rattle.wa_text.proofs.NoWords.{no_texts}
use Rattle.wa_text.proofs.Pieces.{last_word, no_word}
use Rattle.wa_text.proofs.reader.instruction.simple.Goals as goal

pub returns-in_default : goal.returns-in_default
returns-in_default c = λ i h.
    let first = c.args.first.now in
    let words = c.args.words.now in
    let other : first ≢ codes "br_table" = λ same. let equal : c.eq.result ≡ true = (slice_eq-Decides Decides-eqb first c.as_slice.result.now c.eq.result c.eq.ensures).1 (same ∙ sym c.as_slice.ensures) in let test = c.if-eq.false in let no : ⊥ = cc in no in
    let short = simple_length (out-Instr i) first (texts words) other (simple i first (texts words) h) in
    omega (arith, short, length-map words (λ (w : Bor (List ℕ)). w.now))

pub returns-in-empty : goal.returns-in-empty
returns-in-empty c = λ i h.
    let first = c.args.first.now in
    let words = c.args.words.now in
    let is : first ≡ codes "br_table" = (slice_eq-Decides Decides-eqb first c.as_slice.result.now c.eq.result c.eq.ensures).0 c.if-eq.true ∙ c.as_slice.ensures in
    let none : texts words ≡ [] = no_texts words (omega (arith, c.in-empty.len_below)) in
    no_labels (out-Instr i) (subst (λ (rest : Line). Simple (out-Instr i) (codes "br_table") rest) none (whole_as i first (codes "br_table") (texts words) is h))

pub returns-in-len1-up : goal.returns-in-len1-up
returns-in-len1-up c =
    let first = c.args.first.now in
    let words = c.args.words.now in
    let is : first ≡ codes "br_table" = (slice_eq-Decides Decides-eqb first c.as_slice.result.now c.eq.result c.eq.ensures).0 c.if-eq.true ∙ c.as_slice.ensures in
    let line = ap (λ (w : Word). w ∷ texts words) is ∙ ap (λ (rest : Line). codes "br_table" ∷ rest) (last_word words no_word (omega (arith, c.in-len1-up.len_at_least))) in
    subst (λ (l : Line). Reads whole l c.br_table.result) (sym line) c.br_table.ensures
