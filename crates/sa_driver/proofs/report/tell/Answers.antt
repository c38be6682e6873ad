use Rattle.sa_driver.proofs.OutputLemmas.{TookFront-from_took}
use Rattle.sa_driver.proofs.report.tell.Goals as goal

pub returns-in-Ok-clause-reported_part : goal.returns-in-Ok-clause-reported_part
returns-in-Ok-clause-reported_part g c = TookFront-from_took _ _ _ c.in-Ok.ensures.ok
