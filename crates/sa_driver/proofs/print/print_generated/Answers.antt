use Rattle.std.proofs.Common.{subst, sym}
use Rattle.sa_driver.specs.Lines.{IsPlaced}
use Rattle.sa_driver.proofs.EndLemmas.{placed_print}
use Rattle.sa_driver.proofs.print.print_generated.Goals as goal

pub returns-clause-does : goal.returns-clause-does
returns-clause-does g c = (c.without_module.ensures.bytes, rw c.without_module.ensures.cause c.generate_on-cause.ensures.printed)

pub returns-clause-placed : goal.returns-clause-placed
returns-clause-placed g c =
    subst (IsPlaced c.without_module.result.sources) (sym c.without_module.ensures.cause) (placed_print _ c.without_module.result.sources _ c.generate_on-cause.ensures.printed.comes)
