use Rattle.std.proofs.Common.{subst, sym}
use Rattle.sa_driver.specs.Lines.{IsPlaced}
use Rattle.sa_driver.proofs.EndLemmas.{placed_write}
use Rattle.sa_driver.proofs.ListingLemmas.{text_assembled}
use Rattle.sa_driver.proofs.assemble.assemble_text.Goals as goal

pub returns-in-Ok-clause-assembles : goal.returns-in-Ok-clause-assembles
returns-in-Ok-clause-assembles g c =
    text_assembled _ _ _ _ _ _ _ _ c.in-Ok.ensures.assembly c.as_slice.ensures.value c.of_file.ensures.bytes c.of_file.ensures.cause c.written-cause.ensures.written

pub returns-in-Ok-clause-placed : goal.returns-in-Ok-clause-placed
returns-in-Ok-clause-placed g c =
    subst (IsPlaced c.of_file.result.sources) (sym c.of_file.ensures.cause) (placed_write _ c.of_file.result.sources _ c.written-cause.ensures.written.comes)
