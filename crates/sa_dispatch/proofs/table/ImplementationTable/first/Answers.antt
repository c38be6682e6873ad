use Rattle.std.proofs.Common.{◌≡◌, Some, slice_get}
use Rattle.std.proofs.lemmas.Option.{slice_get_within}
use Rattle.sa_dispatch.proofs.Numbered.{first-at, types-at}
use Rattle.sa_dispatch.proofs.table.ImplementationTable.first.Goals as goal

pub returns : goal.returns
returns c =
    let found : Some c.in_ok-get.field-0.now ≡ slice_get c.self.inside.signatures c.args.sig = c.in_ok-get.ensures.value in (
      slice_get_within c.args.self.now c.args.sig _ (types-at _ _ _ _ c.self.view_is found),
      first-at _ _ _ _ _ c.self.invariant c.self.view_is found,
    )
