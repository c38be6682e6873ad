use Rattle.wa_text.proofs.Adding.{Ok-line}
use Rattle.wa_text.proofs.writer.instruction.i64_const.Goals as goal

pub returns : goal.returns
returns c =
    Ok-line _ _ _ _ _ _ _ c.in_ok-first.ensures (c.in_ok-number.ensures 64) c.end_line.ensures
