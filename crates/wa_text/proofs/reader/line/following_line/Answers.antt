use Rattle.std.proofs.Common.{◌≡◌, ◌≢◌, ◌∙◌, [], ◌∷◌, ap, refl}
use Rattle.std.proofs.lemmas.Bool.Decides.{Decides-eqb}
use Rattle.std.proofs.lemmas.Slice.Eq.{slice_eq-Decides}
use Rattle.wa_text.specs.Reading.{words_of}
use Rattle.wa_text.specs.Words.{word}
use Rattle.wa_text.proofs.Lines.{line_here, of_words}
use Rattle.wa_text.proofs.Refusals.{no_line, none_begins_not, other_line}
use Rattle.wa_text.proofs.reader.line.following_line.Goals as goal

pub returns-then-eq-clause-found : goal.returns-then-eq-clause-found
returns-then-eq-clause-found c =
    let line = c.in-Some.line.now in
    let same : line ≡ c.args.word.now = (slice_eq-Decides Decides-eqb line c.args.word.now c.eq.result c.eq.ensures).0 c.if-eq.true in
    of_words {words = c.args.word.now ∷ []} (word c.args.word.now) refl (line_here c.args.text.now c.args.at c.in-Some.end line (c.args.word.now ∷ []) c.in-Some.ensures.found c.in-Some.ensures.unbroken (ap words_of same ∙ c.requires.word))

pub returns-else-eq-clause-none : goal.returns-else-eq-clause-none
returns-else-eq-clause-none c =
    let line = c.in-Some.line.now in
    let word = c.args.word.now in
    let other : line ≢ word = λ same. let equal = (slice_eq-Decides Decides-eqb line word c.eq.result c.eq.ensures).1 same in let test = c.if-eq.false in let no : ⊥ = cc in no in
    other_line c.args.text.now c.args.at c.in-Some.end line word c.in-Some.ensures.found c.in-Some.ensures.unbroken other

pub returns-in_default-clause-none : goal.returns-in_default-clause-none
returns-in_default-clause-none c = none_begins_not (c.args.word.now ∷ []) _ (no_line c.args.text.now c.args.at c.in_default.ensures.none)
