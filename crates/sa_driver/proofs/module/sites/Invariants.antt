use Rattle.std.proofs.Common.{◌≡◌, ◌++◌, drop}
use Rattle.std.specs.Prelude.{flat_map}
use Rattle.sa_driver.specs.Built.{feature_sites}
use Rattle.sa_driver.proofs.module.sites.Given as goal

abbrev pub invariant-loop-feature : goal.invariant-loop-feature
invariant-loop-feature l =
    l.sites ++ flat_map feature_sites (drop l.feature-index l.features) ≡ flat_map feature_sites l.features
