use Rattle.sa_driver.proofs.FurtherLemmas.{tells_none}
use Rattle.sa_driver.proofs.check.unaccepted.Goals as goal

pub returns-in_default-clause-each : goal.returns-in_default-clause-each
returns-in_default-clause-each c = rw c.in-All.is (tells_none c.args.cause c.args.further.items c.without_module-in_default.result c.in_default.not-Refused)
