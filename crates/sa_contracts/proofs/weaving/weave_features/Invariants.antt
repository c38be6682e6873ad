use Rattle.std.proofs.Common.{◌≡◌, ◌++◌, length, reverse}
use Rattle.sa_contracts.specs.AskedChecks.{asked_by, asked_first, features_checks}
use Rattle.sa_contracts.specs.ContractTables.{duties_in}
use Rattle.sa_contracts.specs.WovenClasses.{woven_features}
use Rattle.sa_contracts.proofs.weaving.weave_features.Given as goal

abbrev pub invariant-loop-feature : goal.invariant-loop-feature
invariant-loop-feature l = record {
  features : woven_features (duties_in l.table) l.class 0 l.fn.features ≡ woven_features (duties_in l.table) l.class 0 l.rest ++ reverse l.last_first.items;
  checks : asked_first (features_checks (duties_in l.table) l.class 0 l.fn.features) (asked_by l.initial.weaving.checks)
      ≡ asked_first (features_checks (duties_in l.table) l.class 0 l.rest) (asked_by l.weaving.checks);
}

abbrev pub decreases-loop-feature : goal.decreases-loop-feature
decreases-loop-feature l = length l.rest
