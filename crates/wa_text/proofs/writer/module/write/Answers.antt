use Rattle.std.proofs.Common.{subst}
use Rattle.wa_text.specs.Listing.{IsListing}
use Rattle.wa_text.proofs.Having.{are_bytes}
use Rattle.wa_text.proofs.Productions.{only_listing}
use Rattle.wa_text.proofs.Spelled.{spelled_listing}
use Rattle.wa_text.proofs.writer.module.write.Goals as goal

pub returns-clause-listed : goal.returns-clause-listed
returns-clause-listed c =
    λ bytes are spelled.
    let m = c.args.m.now in
    let some = spelled_listing m bytes (are_bytes bytes are) spelled in
    subst (λ text. IsListing text m) (only_listing m _ some.0 _ c.new-out.ensures.items c.in_ok-module.ensures some.1) some.1

pub returns-clause-only : goal.returns-clause-only
returns-clause-only c = λ other. only_listing c.args.m.now _ other _ c.new-out.ensures.items c.in_ok-module.ensures
