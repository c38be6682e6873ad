use Rattle.sa_driver.proofs.EndLemmas.{of_program}
use Rattle.sa_driver.proofs.compiler.check_files.Goals as goal

pub returns-in-Ok-clause-core : goal.returns-in-Ok-clause-core
returns-in-Ok-clause-core g c =
    rw c.check_program.ensures.same (of_program (g.S.ReadFiles.files c.args.store.now) _ _ c.in-Ok.program c.check_program.result.core c.in-Ok.ensures.read c.check_program.ensures.whole c.check_program.ensures.fault)
