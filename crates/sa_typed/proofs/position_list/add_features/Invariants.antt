use Rattle.std.proofs.Common.{◌≡◌, ◌++◌, drop}
use Rattle.std.specs.Prelude.{flat_map}
use Rattle.sa_typed.specs.PositionList.{feature_positions}
use Rattle.sa_typed.proofs.position_list.add_features.Given as goal

abbrev pub invariant-loop-feature : goal.invariant-loop-feature
invariant-loop-feature l =
    l.found ++ flat_map feature_positions (drop l.feature-index l.features) ≡ l.initial.found ++ flat_map feature_positions l.features
