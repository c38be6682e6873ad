use Rattle.sa_driver.proofs.OutputLemmas.{WritesFront-from_writes}
use Rattle.sa_driver.proofs.build.written.Goals as goal

pub returns-in-Ok-clause-written : goal.returns-in-Ok-clause-written
returns-in-Ok-clause-written g c = record { comes = tt; whole = λ done. c.in-Ok.ensures.ok; front = WritesFront-from_writes _ _ _ _ c.in-Ok.ensures.ok }
