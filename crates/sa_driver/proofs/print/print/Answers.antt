use Rattle.sa_driver.proofs.OutputLemmas.{TookFront-from_took}
use Rattle.sa_driver.proofs.print.print.Goals as goal

pub returns-in-Ok-clause-printed : goal.returns-in-Ok-clause-printed
returns-in-Ok-clause-printed g c = record { comes = tt; whole = λ done. c.in-Ok.ensures.ok; front = TookFront-from_took _ _ _ c.in-Ok.ensures.ok }
