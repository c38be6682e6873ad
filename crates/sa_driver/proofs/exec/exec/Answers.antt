use Rattle.std.proofs.Common.{◌∙◌, inr, subst, sym}
use Rattle.sa_read.specs.FileContents.{IsReadOf}
use Rattle.sa_driver.specs.Answer.{IsModuleIn, IsSame}
use Rattle.sa_driver.specs.Lines.{IsPlaced}
use Rattle.sa_driver.specs.HostParts.{part}
use Rattle.sa_driver.proofs.RunLemmas.{shown}
use Rattle.sa_driver.proofs.exec.exec.Goals as goal

pub returns-in-Ok-Whole-clause-does : goal.returns-in-Ok-Whole-clause-does
returns-in-Ok-Whole-clause-does g c =
    let read = subst (IsReadOf (g.S.ReadFiles.files c.args.store.now) c.args.line.now.«module».now 67108864) c.in-Ok-Whole.field-0-is c.in-Ok-Whole.ensures.read in
    let ran = c.run_module-ended.ensures.ran in
    inr (
      subst (IsModuleIn (part g.S.ReadFiles.files g.S.ReadFiles.faults c.args.store.now c.read_file.new.store) c.args.line.now.«module».now) (sym c.outcome.ensures.bytes) (read.0, read.1),
      shown _ _ IsSame _ c.args.line.now.pages c.args.line.now.fuel c.run_module-ended.result ran.0 c.outcome.result ran.1 ran.2 (c.outcome.ensures.bytes ∙ sym c.as_slice.ensures.value) c.outcome.ensures.cause c.outcome.ensures.done c.outcome.ensures.steps,
    )

pub returns-in-Ok-Whole-clause-placed : goal.returns-in-Ok-Whole-clause-placed
returns-in-Ok-Whole-clause-placed g c =
    subst (IsPlaced c.outcome.result.sources) (sym c.outcome.ensures.cause) (c.run_module-ended.ensures.placed c.outcome.result.sources)
