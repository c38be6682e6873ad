use Rattle.std.proofs.Common.{◌≡◌, drop}
use Rattle.sa_contracts.specs.AskedChecks.{asked_by}
use Rattle.sa_contracts.specs.NotQuiet.{first_in_features}
use Rattle.sa_contracts.proofs.checks.Checks.check_quiet.Given as goal

abbrev pub invariant-loop-feature : goal.invariant-loop-feature
invariant-loop-feature l = first_in_features (asked_by l.self) l.core.features ≡ first_in_features (asked_by l.self) (drop l.feature-index l.core.features)
