use Rattle.std.proofs.Common.{◌≡◌, ◌≢◌, [], true, sym, arith, rules, ◌∙◌}
use Rattle.std.proofs.lemmas.Grind.{common_steps}
use Rattle.hex.proofs.HexLemmas.{decode_of-ok}
use Rattle.hex.specs.Hex.{IsBytes, encode_lower}
use Rattle.std.proofs.lemmas.Bool.Decides.{Decides-eqb}
use Rattle.std.proofs.lemmas.Slice.Eq.{slice_eq-Decides}
use Rattle.std.specs.Prelude.{codes}
use Rattle.wa_text.proofs.NoWords.{bytes_refused, other_digits}
use Rattle.wa_text.proofs.Pieces.{spelled_bytes}
use Rattle.wa_text.proofs.Refusals.{returned_from}
use Rattle.wa_text.proofs.reader.words.bytes.Goals as goal

pub returns : goal.returns
returns c =
    let read = c.in_ok-bytes.bytes.items in
    let some : read ≢ [] = grind (arith, common_steps) in
    let are : IsBytes read = (decode_of-ok c.args.word.now read c.in_ok-bytes.ensures.ok).3 in
    let is : c.args.word.now ≡ encode_lower read = search rules in
    spelled_bytes read c.args.word.now some are is

pub returns-in_err-bytes : goal.returns-in_err-bytes
returns-in_err-bytes c =
    let word = c.args.word.now in
    let dash : word ≢ codes "-" = λ same. let equal : c.eq.result ≡ true = (slice_eq-Decides Decides-eqb word c.as_slice.result.now c.eq.result c.eq.ensures).1 (same ∙ sym c.as_slice.ensures) in let test = c.if-eq.false in let no : ⊥ = cc in no in
    returned_from _ _ _ _ c.from_residual.ensures.1 (λ fault from. bytes_refused word c.in_err-bytes.field-0.0 fault from c.in_err-bytes.ensures.err dash)

pub returns-then-is_empty : goal.returns-then-is_empty
returns-then-is_empty c = λ bs h.
    let word = c.args.word.now in
    let read = c.in_ok-bytes.bytes.items in
    let dash : word ≢ codes "-" = λ same. let equal : c.eq.result ≡ true = (slice_eq-Decides Decides-eqb word c.as_slice.result.now c.eq.result c.eq.ensures).1 (same ∙ sym c.as_slice.ensures) in let test = c.if-eq.false in let no : ⊥ = cc in no in
    let none : read ≡ [] = grind (arith, common_steps) in
    (other_digits word read c.in_ok-bytes.ensures.ok dash bs h).0 none

pub returns-then-ne : goal.returns-then-ne
returns-then-ne c = λ bs h.
    let word = c.args.word.now in
    let read = c.in_ok-bytes.bytes.items in
    let dash : word ≢ codes "-" = λ same. let equal : c.eq.result ≡ true = (slice_eq-Decides Decides-eqb word c.as_slice.result.now c.eq.result c.eq.ensures).1 (same ∙ sym c.as_slice.ensures) in let test = c.if-eq.false in let no : ⊥ = cc in no in
    let differs : word ≢ encode_lower read = search rules in
    differs (sym (other_digits word read c.in_ok-bytes.ensures.ok dash bs h).1)
