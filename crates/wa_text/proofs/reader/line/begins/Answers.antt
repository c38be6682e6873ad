use Rattle.std.proofs.Common.{◌≡◌, true}
use Rattle.std.proofs.lemmas.Bool.Decides.{Decides-eqb}
use Rattle.std.proofs.lemmas.Slice.Eq.{slice_eq-Decides}
use Rattle.wa_text.proofs.NoModule.{none_begins}
use Rattle.wa_text.proofs.Refusals.{first_word_of, no_line, row_begins, row_otherwise}
use Rattle.wa_text.proofs.reader.line.begins.Goals as goal

pub returns-in_default-clause-no : goal.returns-in_default-clause-no
returns-in_default-clause-no c = λ no. none_begins c.args.word.now _ (no_line c.args.text.now c.args.at c.in_default.ensures.none)

pub returns-clause-yes : goal.returns-clause-yes
returns-clause-yes c = λ yes.
    let line = c.in-Some.line.now in
    let first = c.first_word.result.now in
    let words = first_word_of line first c.first_word.ensures.unparted c.first_word.ensures.front in
    row_begins c.args.text.now c.args.at c.in-Some._end line first c.args.word.now words.0 c.in-Some.ensures.found c.in-Some.ensures.unbroken words.1
    ((slice_eq-Decides Decides-eqb first c.args.word.now c.eq.result c.eq.ensures).0 yes)

pub returns-clause-no : goal.returns-clause-no
returns-clause-no c = λ no.
    let line = c.in-Some.line.now in
    let first = c.first_word.result.now in
    let words = first_word_of line first c.first_word.ensures.unparted c.first_word.ensures.front in
    row_otherwise c.args.text.now c.args.at c.in-Some._end line first c.args.word.now words.0 c.in-Some.ensures.found c.in-Some.ensures.unbroken words.1
    (λ same. let equal : c.eq.result ≡ true = (slice_eq-Decides Decides-eqb first c.args.word.now c.eq.result c.eq.ensures).1 same in let never : ⊥ = cc in never)
