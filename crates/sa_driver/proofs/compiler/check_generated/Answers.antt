use Rattle.std.proofs.Common.{refl}
use Rattle.sa_driver.proofs.EndLemmas.{of_generated}
use Rattle.sa_driver.proofs.compiler.check_generated.Goals as goal

pub returns-in-Ok-clause-core : goal.returns-in-Ok-clause-core
returns-in-Ok-clause-core c =
    rw c.check_program.ensures.same (of_generated c.args.classes _ c.check_program.result.core c.in-Ok.ensures.value refl c.check_program.ensures.whole c.check_program.ensures.fault)
