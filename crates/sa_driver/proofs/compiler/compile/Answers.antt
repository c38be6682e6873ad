use Rattle.sa_driver.proofs.EndLemmas.{made_of, of_texts}
use Rattle.sa_driver.proofs.ModuleLemmas.{made_of_tree}
use Rattle.sa_driver.specs.Files.{Explains}
use Rattle.sa_read.specs.Front.{AreSpelled}
use Rattle.sa_driver.proofs.compiler.compile.Goals as goal

pub returns-clause-module : goal.returns-clause-module
returns-clause-module c =
    let texts = c.args.sources.texts in
    let checked = of_texts texts c.check_texts-checked.result.core c.check_texts-checked.ensures.made c.check_texts-checked.ensures.fault in
    made_of (AreSpelled texts) (Explains texts) c.check_texts-checked.result.core c.compile_checked.result.«module» checked c.compile_checked.ensures.made c.compile_checked.ensures.fault tt (λ invariant. tt)

pub returns-clause-tree : goal.returns-clause-tree
returns-clause-tree c =
    made_of_tree c.check_texts-checked.result.core c.compile_checked.result.«module» c.compile_checked.ensures.well c.compile_checked.ensures.numbered c.compile_checked.ensures.made
