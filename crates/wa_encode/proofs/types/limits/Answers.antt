use Rattle.wa_encode.proofs.Adding.{Adds-last}
use Rattle.wa_encode.proofs.types.limits.Goals as goal

pub returns-in_ok-byte-in-None : goal.returns-in_ok-byte-in-None
returns-in_ok-byte-in-None c = rw c.in-None.is (Adds-last _ _ _ c.in_ok-byte-in-None.ensures c.number.ensures)

pub returns-in_ok-number-in-Some : goal.returns-in_ok-number-in-Some
returns-in_ok-number-in-Some c =
    rw c.in-Some.is (Adds-last _ _ _ c.in_ok-byte-in-Some.ensures (Adds-last _ _ _ c.in_ok-number-in-Some.ensures c.number-in-Some-2.ensures))
