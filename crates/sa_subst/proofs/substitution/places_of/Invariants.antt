use Rattle.std.proofs.Common.{◌≤◌, length}
use Rattle.sa_subst.specs.Substitution.{HasPlaces}
use Rattle.sa_subst.proofs.substitution.places_of.Given as goal

abbrev pub invariant-params : goal.invariant-params
invariant-params l = record {
  within : l.at ≤ length l.params;
  places : HasPlaces l.places l.params l.at;
}

abbrev pub decreases-params : goal.decreases-params
decreases-params l = l.at
