-- Where no check is required to be quiet, there is none that isn't.
use Rattle.std.proofs.Common.{◌≡◌, List, [], ◌∷◌, None, refl}
use Rattle.sa_typed.specs.declared.feature.TypedFeature.{TypedFeature}
use Rattle.sa_contracts.specs.AskedChecks.{nothing_asked}
use Rattle.sa_contracts.specs.NotQuiet.{first_in_features}

pub none_loud : (features : List TypedFeature) → first_in_features nothing_asked features ≡ None
none_loud [] = refl
none_loud (f ∷ more) = none_loud more

pub ruleset none = (none_loud)
