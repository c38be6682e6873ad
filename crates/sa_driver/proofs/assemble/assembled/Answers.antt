use Rattle.std.proofs.Common.{subst, sym}
use Rattle.std.proofs.lemmas.Result.{IfErr-weaker, IfOk-weaker}
use Rattle.wa_text.specs.Places.{NamesLine, NoneBegins}
use Rattle.sa_driver.specs.Listings.{EndsWithoutModule}
use Rattle.sa_driver.proofs.assemble.assembled.Goals as goal

pub returns-in-Ok-clause-assembly : goal.returns-in-Ok-clause-assembly
returns-in-Ok-clause-assembly c =
    IfOk-weaker c.encoded.result _ _ (λ bytes least. record { «module» = c.in-Ok.«module»; listing = c.in-Ok.ensures.found; shortest = least }) c.encoded.ensures.shortest

pub returns-in-Ok-clause-fault : goal.returns-in-Ok-clause-fault
returns-in-Ok-clause-fault c =
    IfErr-weaker c.encoded.result _ _ (λ cause is. subst (EndsWithoutModule c.args.text.now) (sym is) tt) c.encoded.ensures.fault

pub returns-in-Err-NotListing-clause-fault : goal.returns-in-Err-NotListing-clause-fault
returns-in-Err-NotListing-clause-fault c =
    let line = subst (NamesLine c.args.text.now) c.in-Err-NotListing.field-0-is c.in-Err-NotListing.ensures.line in
    let none = subst (NoneBegins c.args.text.now) c.in-Err-NotListing.field-0-is c.in-Err-NotListing.ensures.clear in
    rw c.in-Err-NotListing.field-0-is (line, none)
