use Rattle.std.proofs.Common.{arith, subst, sym}
use Rattle.std.proofs.lemmas.Result.{IfErr-weaker, IfOk-weaker}
use Rattle.sa_driver.specs.Listings.{SaysNoListing}
use Rattle.sa_driver.proofs.listing.listing_of.Goals as goal

pub returns-in-Ok-clause-listing : goal.returns-in-Ok-clause-listing
returns-in-Ok-clause-listing c =
    let bytes = c.args.bytes.now in
    IfOk-weaker c.listed.result _ _ (λ text is. record {
      «module» = c.in-Ok.«module»;
      spelled = c.in-Ok.ensures.found;
      listing = is bytes (λ i. omega (arith, c.type_inv.bytes i)) c.in-Ok.ensures.found;
    }) c.listed.ensures.listed

pub returns-in-Ok-clause-fault : goal.returns-in-Ok-clause-fault
returns-in-Ok-clause-fault c =
    IfErr-weaker c.listed.result _ _ (λ cause is. subst (SaysNoListing c.args.bytes.now) (sym is) tt) c.listed.ensures.fault

pub returns-in-Err-Malformed-clause-fault : goal.returns-in-Err-Malformed-clause-fault
returns-in-Err-Malformed-clause-fault c = λ m spelled.
    let malformed = c.in-Err-Malformed.field-0-is in
    let memory = c.in-Err-Malformed.ensures.complete m spelled in
    cc
