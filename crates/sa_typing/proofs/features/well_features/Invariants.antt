use Rattle.std.proofs.Common.{◌≡◌, drop}
use Rattle.std.specs.List.{list_all}
use Rattle.sa_typing.specs.Rows.{rows}
use Rattle.sa_typing.specs.Features.{well_feature}
use Rattle.sa_typing.proofs.features.well_features.Given as goal

abbrev pub invariant-loop-feature : goal.invariant-loop-feature
invariant-loop-feature l = list_all (well_feature (rows l.view)) l.view.features.now ≡ list_all (well_feature (rows l.view)) (drop l.feature-index l.view.features.now)
