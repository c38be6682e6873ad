use Rattle.std.proofs.Common.{refl}
use Rattle.sa_driver.proofs.texts.explain.Goals as goal

pub returns-in-Some-clause-does : goal.returns-in-Some-clause-does
returns-in-Some-clause-does g c = rw (← c.in-Some.ensures) c.show.ensures.does

pub returns-in-None-clause-does : goal.returns-in-None-clause-does
returns-in-None-clause-does g c = rw (← c.in-None.ensures) (c.without_module.ensures.bytes, c.without_module.ensures.cause, refl)
