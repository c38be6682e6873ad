use Rattle.sa_driver.proofs.ListingLemmas.{whole_assembled}
use Rattle.sa_driver.proofs.assemble.assemble.Goals as goal

pub returns-in-Ok-Whole-clause-does : goal.returns-in-Ok-Whole-clause-does
returns-in-Ok-Whole-clause-does g c =
    whole_assembled _ _ _ _ _ _ _ _ _ _ _ c.assemble_text.result c.in-Ok-Whole.field-0-is c.in-Ok-Whole.ensures.read c.read_file.ensures.files c.read_file.ensures.count c.as_slice.ensures.value c.assemble_text.ensures.assembles
