use Rattle.std.proofs.Common.{subst, sym}
use Rattle.sa_driver.specs.Ends.{IsPrinted}
use Rattle.sa_driver.specs.Lines.{IsPlaced}
use Rattle.sa_driver.specs.HostParts.{part}
use Rattle.sa_driver.proofs.EndLemmas.{placed_print}
use Rattle.sa_driver.proofs.texts.show.Goals as goal

pub returns-clause-does : goal.returns-clause-does
returns-clause-does g c =
    let printed = subst (λ bytes. IsPrinted (part g.O.Sink.output g.O.Sink.faults c.args.out.now c.print-cause.new.out) bytes c.print-cause.result) c.as_bytes.ensures.value c.print-cause.ensures.printed in
    (c.without_module.ensures.bytes, rw c.without_module.ensures.cause printed)

pub returns-clause-placed : goal.returns-clause-placed
returns-clause-placed g c =
    subst (IsPlaced c.without_module.result.sources) (sym c.without_module.ensures.cause) (placed_print _ c.without_module.result.sources _ c.print-cause.ensures.printed.comes)
