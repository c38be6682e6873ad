use Rattle.wa_text.specs.Forms.{each}
use Rattle.std.proofs.Common.{take, arith, [], ◌∷◌}
use Rattle.wa_text.specs.Reading.{texts}
use Rattle.wa_text.specs.Words.{u32}
use Rattle.wa_text.proofs.Lines.{each_more}
use Rattle.wa_text.proofs.NoWords.{index_at}
use Rattle.wa_text.proofs.Pieces.{texts_more}
use Rattle.wa_text.proofs.Refusals.{refuses_as, returned}
use Rattle.wa_text.proofs.reader.words.indices.Goals as goal

pub loop-word-preserved : goal.loop-word-preserved
loop-word-preserved c =
    let front = take c.loop-word.word-index (texts c.args.words.now) in
    let more = texts_more c.args.words.now c.loop-word.word-index _ (omega arith) in
    rw (c.in_ok-push.ensures.ok, more) (each_more u32 c.loop-word.numbers c.in_ok-index.field-0 front _ c.loop-word.invariant c.in_ok-index.ensures)

pub returns-in_err-index : goal.returns-in_err-index
returns-in_err-index c =
    returned _ _ _ c.from_residual.ensures.1 (refuses_as u32 (each u32) (texts c.args.words.now) (_ ∷ []) c.in_err-index.field-0.0 (λ ns h. index_at ns c.args.words.now c.loop-word.word-index _ (omega arith) h) c.in_err-index.ensures)
