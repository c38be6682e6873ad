use Rattle.wa_text.proofs.Adding.{Adds-nothing}
use Rattle.wa_text.proofs.writer.types.block_result.Goals as goal

pub returns-in-None : goal.returns-in-None
returns-in-None c =
    rw c.in-None.is (Adds-nothing _)
