use Rattle.wa_text.proofs.Adding.{Adds-last}
use Rattle.wa_text.proofs.writer.types.limits.Goals as goal

pub returns-in-None : goal.returns-in-None
returns-in-None c =
    rw c.in-None.is c.index.ensures

pub returns-in_ok-index-in-Some : goal.returns-in_ok-index-in-Some
returns-in_ok-index-in-Some c =
    rw c.in-Some.is (Adds-last _ _ _ c.in_ok-index-in-Some.ensures c.index-in-Some-2.ensures)
