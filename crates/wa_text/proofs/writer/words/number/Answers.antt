use Rattle.std.proofs.Common.{◌∙◌}
use Rattle.wa_text.proofs.Productions.{Ok-number}
use Rattle.wa_text.proofs.writer.words.number.Goals as goal

pub returns : goal.returns
returns c = Ok-number _ c.args.n _ _ _ (c.as_bytes.ensures.value ∙ c.format.ensures.text) c.word.ensures
