use Rattle.wa_decode.proofs.Sections.{custom-ok, custom-unnamed, custom-none, returned-place}
use Rattle.wa_decode.proofs.Sized.{holds}
use Rattle.wa_decode.proofs.section.custom.Goals as goal

pub returns-in_err-content-clause-reads : goal.returns-in_err-content-clause-reads
returns-in_err-content-clause-reads c = returned-place _ c.from_residual.ensures.1 (custom-none c.in_err-content.ensures.complete)

pub returns-in_err-name_bytes-clause-reads : goal.returns-in_err-name_bytes-clause-reads
returns-in_err-name_bytes-clause-reads c =
    let content = holds c.in_ok-content.ensures.holds.starts c.in_ok-content.ensures.found c.in_ok-content.ensures.complete in
    returned-place _ c.from_residual-in_err-name_bytes.ensures.1 (custom-unnamed content c.in_err-name_bytes.ensures.complete)

pub returns-clause-reads : goal.returns-clause-reads
returns-clause-reads c =
    let content = holds c.in_ok-content.ensures.holds.starts c.in_ok-content.ensures.found c.in_ok-content.ensures.complete in
    custom-ok _ content c.in_ok-name_bytes.ensures.found
