use Rattle.std.proofs.Common.{◌≡◌, true, Ok, ◌∙◌}
use Rattle.std.proofs.lemmas.Fmt.{parse-decimal}
use Rattle.std.proofs.lemmas.Slice.Eq.{bytes_eq-Decides}
use Rattle.std.specs.Prelude.{decimal}
use Rattle.std.specs.Str.{bytes_eq}
use Rattle.wa_text.proofs.NoWords.{head_is, no_text}
use Rattle.wa_text.proofs.reader.words.number.Goals as goal

pub returns-in_default : goal.returns-in_default
returns-in_default c = no_text c.args.word.now c.in_default.ensures.cases.0

pub returns-in_default-parse : goal.returns-in_default-parse
returns-in_default-parse c = λ m h.
    let digits = c.in-Ok.digits.now in
    let word : digits ≡ decimal m = c.in-Ok.ensures.cases.0 ∙ head_is h.1 in
    let read : c.parse.result ≡ Ok m = parse-decimal 64 m digits c.parse.result h.0 h.0 word c.parse.ensures.value.0 in
    let is = c.in-Ok-parse.is in
    let same : c.in-Ok-parse.n ≡ m = cc in
    let written : c.format.result.now ≡ decimal c.in-Ok-parse.n = c.format.ensures.text in
    let equal : c.format.result.now ≡ digits = cc in
    let differs = c.if-eq.false in
    let test : bytes_eq c.format.result.now digits ≡ true = (bytes_eq-Decides c.format.result.now digits).1 equal in
    let no : ⊥ = cc in
    no

pub returns-in_default-parse-2 : goal.returns-in_default-parse-2
returns-in_default-parse-2 c = λ m h.
    let digits = c.in-Ok.digits.now in
    let word : digits ≡ decimal m = c.in-Ok.ensures.cases.0 ∙ head_is h.1 in
    let read : c.parse.result ≡ Ok m = parse-decimal 64 m digits c.parse.result h.0 h.0 word c.parse.ensures.value.0 in
    let fails = c.in_default-parse.is in
    let no : ⊥ = cc in
    no
