use Rattle.std.proofs.Common.{◌≡◌, take}
use Rattle.sa_include_conflicts.specs.Staying.{all_stay}
use Rattle.sa_include_conflicts.proofs.replacement.retained_features.Given as goal

abbrev pub invariant-loop-place : goal.invariant-loop-place
invariant-loop-place l = l.stays.items ≡ take l.place (all_stay l.features)
