use Rattle.sa_driver.proofs.EndLemmas.{made_of, placed_made}
use Rattle.sa_driver.proofs.ModuleLemmas.{made_of_tree}
use Rattle.sa_driver.proofs.compiler.compile_generated.Goals as goal

pub returns-clause-module : goal.returns-clause-module
returns-clause-module c =
    rw c.compile_checked.ensures.same (made_of _ _ c.check_generated-checked.result.core c.compile_checked.result.«module» c.check_generated-checked.ensures.core c.compile_checked.ensures.made c.compile_checked.ensures.fault tt (λ invariant. tt))

pub returns-clause-placed : goal.returns-clause-placed
returns-clause-placed c =
    rw c.compile_checked.ensures.same (placed_made c.check_generated-checked.result.sources c.check_generated-checked.result.core c.compile_checked.result.«module» c.check_generated-checked.ensures.placed c.compile_checked.ensures.fault)

pub returns-clause-tree : goal.returns-clause-tree
returns-clause-tree c =
    made_of_tree c.check_generated-checked.result.core c.compile_checked.result.«module» c.compile_checked.ensures.well c.compile_checked.ensures.numbered c.compile_checked.ensures.made
