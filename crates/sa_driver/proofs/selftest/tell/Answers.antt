use Rattle.std.proofs.Common.{◌∙◌, subst}
use Rattle.sa_driver.specs.Ends.{IsPrinted}
use Rattle.sa_driver.specs.HostParts.{part}
use Rattle.sa_driver.proofs.OutputLemmas.{TookFront-nothing}
use Rattle.sa_driver.proofs.selftest.tell.Goals as goal

pub returns-in-Ok-clause-printed : goal.returns-in-Ok-clause-printed
returns-in-Ok-clause-printed g c =
    subst (λ text. IsPrinted (part g.O.Sink.output g.O.Sink.faults c.args.out.now c.print.new.out) text c.print.result) (c.as_slice.ensures.value ∙ c.in-Ok.ensures) c.print.ensures.printed

pub returns-in-Err-clause-printed : goal.returns-in-Err-clause-printed
returns-in-Err-clause-printed g c = record { comes = tt; whole = λ done. cc; front = TookFront-nothing _ _ }
