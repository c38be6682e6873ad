use Rattle.wa_text.proofs.Adding.{Ok-line}
use Rattle.wa_text.proofs.writer.instruction.begin.Goals as goal

pub returns : goal.returns
returns c =
    Ok-line _ _ _ _ _ _ _ c.in_ok-first.ensures c.in_ok-block_result.ensures c.end_line.ensures
