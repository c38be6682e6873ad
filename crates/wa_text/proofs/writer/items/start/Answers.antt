use Rattle.wa_text.proofs.Adding.{Adds-nothing, Ok-line}
use Rattle.wa_text.proofs.writer.items.start.Goals as goal

pub returns-in_ok-index-in-Some : goal.returns-in_ok-index-in-Some
returns-in_ok-index-in-Some c =
    rw c.in-Some.is (Ok-line _ _ _ _ _ _ _ c.in_ok-first-in-Some.ensures c.in_ok-index-in-Some.ensures c.end_line.ensures)

pub returns-in-None : goal.returns-in-None
returns-in-None c =
    rw c.in-None.is (Adds-nothing _)
