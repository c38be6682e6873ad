use Rattle.std.proofs.Common.{inl, inr, refl, subst}
use Rattle.sa_driver.specs.Ends.{IsPrinted}
use Rattle.sa_driver.specs.HostParts.{part}
use Rattle.sa_driver.proofs.listing.list.Goals as goal

pub returns-in-Ok-clause-lists : goal.returns-in-Ok-clause-lists
returns-in-Ok-clause-lists g c =
    let out = part g.O.Sink.output g.O.Sink.faults c.args.out.now c.print.new.out in
    inl (c.in-Ok.text.items, c.in-Ok.ensures.listing, subst (λ text. IsPrinted out text c.print.result) c.as_slice.ensures.value c.print.ensures.printed)

pub returns-in-Err-clause-lists : goal.returns-in-Err-clause-lists
returns-in-Err-clause-lists g c = inr (c.in-Err.ensures.fault, refl)
