use Rattle.sa_driver.proofs.StopLemmas.{same_cause}
use Rattle.sa_driver.proofs.run.at_place.Goals as goal

pub returns-in_default-clause-of_module : goal.returns-in_default-clause-of_module
returns-in_default-clause-of_module c = same_cause c.args.positions.now c.args.sources.now c.args.cause c.in_default.not-Stopped
