use Rattle.wa_text.proofs.Adding.{Adds-then, Ok-line}
use Rattle.wa_text.proofs.writer.items.export.Goals as goal

pub returns : goal.returns
returns c =
    Ok-line _ _ _ _ _ _ _ c.in_ok-first.ensures (Adds-then c.in_ok-name.ensures c.in_ok-export_kind.ensures) c.end_line.ensures
