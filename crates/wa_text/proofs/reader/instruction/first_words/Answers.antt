use Rattle.wa_text.specs.Instructions.{block_result}
use Rattle.std.proofs.Common.{arith, drop}
use Rattle.std.proofs.lemmas.List.{take_rest}
use Rattle.wa_text.specs.Reading.{texts, first_line}
use Rattle.wa_text.proofs.NoInstruction.{begin_refused, none_refused}
use Rattle.wa_text.proofs.NoWords.{no_texts}
use Rattle.wa_text.proofs.Pieces.{first_word, no_word}
use Rattle.wa_text.proofs.Refusals.{refuses_as, returned}
use Rattle.wa_text.proofs.reader.instruction.first_words.Goals as goal

pub returns-in_default : goal.returns-in_default
returns-in_default c = none_refused (texts c.args.words.now) (no_texts c.args.words.now (omega arith))

pub returns-in_err-block_result-in-Some : goal.returns-in_err-block_result-in-Some
returns-in_err-block_result-in-Some c =
    let words = c.args.words.now in
    let parts = first_word words no_word (omega arith) in
    let rest = rw take_rest at c.in_err-block_result-in-Some.ensures in
    returned _ _ _ c.from_residual.ensures.1 (refuses_as block_result first_line (texts words) (texts (drop 1 words)) c.in_err-block_result-in-Some.field-0.0 (begin_refused (texts words) _ _ c.in-Some.kind parts c.in-Some.ensures) rest)
