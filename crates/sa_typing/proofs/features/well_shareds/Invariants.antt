use Rattle.std.proofs.Common.{◌≡◌, drop}
use Rattle.std.specs.List.{list_all}
use Rattle.sa_typing.specs.Rows.{rows}
use Rattle.sa_typing.specs.Features.{well_shared}
use Rattle.sa_typing.proofs.features.well_shareds.Given as goal

abbrev pub invariant-loop-shared : goal.invariant-loop-shared
invariant-loop-shared l = list_all (well_shared (rows l.view)) l.view.shareds.now ≡ list_all (well_shared (rows l.view)) (drop l.shared-index l.view.shareds.now)
