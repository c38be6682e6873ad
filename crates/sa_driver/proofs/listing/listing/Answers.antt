use Rattle.std.proofs.Common.{inl, refl, rules, subst, sym}
use Rattle.sa_driver.specs.Answer.{IsUnread}
use Rattle.sa_driver.specs.Lines.{IsPlaced}
use Rattle.sa_driver.specs.HostParts.{part}
use Rattle.sa_driver.proofs.ListingLemmas.{placed_listing, whole_listed}
use Rattle.sa_driver.proofs.listing.listing.Goals as goal

pub returns-in-Ok-Whole-clause-does : goal.returns-in-Ok-Whole-clause-does
returns-in-Ok-Whole-clause-does g c =
    whole_listed (part g.S.ReadFiles.files g.S.ReadFiles.faults c.args.store.now c.read_file.new.store) _ _ _ _ _ _ c.without_file.result c.in-Ok-Whole.field-0-is c.in-Ok-Whole.ensures.read c.as_slice.ensures.value c.without_file.ensures.bytes c.without_file.ensures.cause c.list-cause.ensures.lists

pub returns-in-Ok-Whole-clause-placed : goal.returns-in-Ok-Whole-clause-placed
returns-in-Ok-Whole-clause-placed g c =
    subst (IsPlaced c.without_file.result.sources) (sym c.without_file.ensures.cause) (placed_listing _ _ c.without_file.result.sources _ c.list-cause.ensures.lists)

pub returns-in-Err-clause-does : goal.returns-in-Err-clause-does
returns-in-Err-clause-does g c =
    let store = part g.S.ReadFiles.files g.S.ReadFiles.faults c.args.store.now c.read_file.new.store in
    let unread : IsUnread store c.args.line.now.«module».now c.unread.result = search rules in
    inl (subst (IsUnread store c.args.line.now.«module».now) (sym c.without_file-in-Err.ensures.cause) unread, c.without_file-in-Err.ensures.bytes, refl)
