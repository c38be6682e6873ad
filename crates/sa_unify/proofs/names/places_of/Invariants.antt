use Rattle.std.proofs.Common.{◌≤◌, length}
use Rattle.sa_unify.specs.Numbers.{HasNumbers}
use Rattle.sa_unify.proofs.names.places_of.Given as goal

abbrev pub invariant-classes : goal.invariant-classes
invariant-classes l = record {
  within : l.at ≤ length l.classes;
  numbers : HasNumbers l.places l.classes l.at;
}

abbrev pub decreases-classes : goal.decreases-classes
decreases-classes l = l.at
