use Rattle.std.proofs.Common.{ℕ, List, subst}
use denote.Ref.{Bor}
use Rattle.wa_text.specs.Reading.{Refuses, first_line, texts}
use Rattle.wa_text.proofs.Refusals.{refused_none, refused_words, returned}
use Rattle.wa_text.proofs.reader.expression.first_line.Goals as goal

pub returns-in_err-words-clause-refused : goal.returns-in_err-words-clause-refused
returns-in_err-words-clause-refused c = returned _ _ _ c.from_residual.ensures.1 (refused_none _ c.args.text.now c.args.at c.in_err-words.field-0.0 c.in_err-words.ensures.refused)

pub returns-in-Err-clause-refused : goal.returns-in-Err-clause-refused
returns-in-Err-clause-refused c =
    let none = subst (λ (words : List (Bor (List ℕ))). Refuses first_line (texts words) c.in-Err.fault) c.as_slice.ensures.value c.in-Err.ensures in
    refused_words first_line (texts c.in_ok-words.words.items) c.in-Err.fault c.at.result c.at.ensures.wrong c.at.ensures.memory c.in_ok-words.ensures.found none
