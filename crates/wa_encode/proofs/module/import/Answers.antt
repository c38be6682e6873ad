use Rattle.wa_encode.proofs.Adding.{Adds-last}
use Rattle.wa_encode.proofs.Productions.{Adds-name}
use Rattle.wa_encode.proofs.module.import.Goals as goal

pub returns : goal.returns
returns c =
    Adds-last _ _ _ (Adds-name _ _ _ c.in_ok-name.ensures) (Adds-last _ _ _ (Adds-name _ _ _ c.in_ok-name-2.ensures) c.import_kind.ensures)
