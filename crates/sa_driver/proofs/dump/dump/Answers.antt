use Rattle.std.proofs.Common.{inl, inr, refl, subst, sym}
use Rattle.sa_driver.specs.Lines.{IsPlaced}
use Rattle.sa_driver.proofs.EndLemmas.{given_none, placed_form, taken_of}
use Rattle.sa_driver.proofs.dump.dump.Goals as goal

pub returns-in-Ok-clause-does : goal.returns-in-Ok-clause-does
returns-in-Ok-clause-does g c =
    rw (← c.as_slice.ensures.value) (inr (
      taken_of _ _ _ _ _ _ _ c.in-Ok.is c.check_files-sources.ensures.core c.without_module.ensures.sources,
      c.without_module.ensures.bytes,
      rw c.without_module.ensures.cause c.print_form-cause.ensures.printed,
    ))

pub returns-in-Err-clause-does : goal.returns-in-Err-clause-does
returns-in-Err-clause-does g c =
    rw (← c.as_slice.ensures.value) (inl (given_none _ _ _ _ _ _ c.in-Err.is c.check_files-sources.ensures.core c.check_files-sources.ensures.files c.without_module-in-Err.ensures.sources c.without_module-in-Err.ensures.cause c.without_module-in-Err.ensures.bytes, refl))

pub returns-in-Ok-clause-placed : goal.returns-in-Ok-clause-placed
returns-in-Ok-clause-placed g c =
    subst (IsPlaced c.without_module.result.sources) (sym c.without_module.ensures.cause) (placed_form _ c.without_module.result.sources _ c.print_form-cause.ensures.printed)
