use Rattle.wa_text.proofs.Adding.{Ok-line}
use Rattle.wa_text.proofs.writer.items.table.Goals as goal

pub returns : goal.returns
returns c =
    Ok-line _ _ _ _ _ _ _ c.in_ok-first.ensures (c.in_ok-limits.ensures) c.end_line.ensures
