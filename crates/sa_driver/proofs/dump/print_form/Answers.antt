use Rattle.std.proofs.Common.{inl, inr, refl}
use Rattle.sa_driver.proofs.dump.print_form.Goals as goal

pub returns-in-Ok-clause-printed : goal.returns-in-Ok-clause-printed
returns-in-Ok-clause-printed g c = inl (_, c.print.ensures.printed)

pub returns-in-Err-clause-printed : goal.returns-in-Err-clause-printed
returns-in-Err-clause-printed g c = inr (c.failed.ensures.internal, refl)
