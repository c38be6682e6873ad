use Rattle.wa_text.proofs.Adding.{Adds-then, Ok-line}
use Rattle.wa_text.proofs.writer.items.import.Goals as goal

pub returns : goal.returns
returns c =
    Ok-line _ _ _ _ _ _ _ c.in_ok-first.ensures (Adds-then c.in_ok-name.ensures (Adds-then c.in_ok-name-2.ensures c.in_ok-import_kind.ensures)) c.end_line.ensures
