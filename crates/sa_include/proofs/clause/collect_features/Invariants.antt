use Rattle.sa_include.proofs.Refusing.{IsGatheredUpTo}
use Rattle.sa_include.proofs.clause.collect_features.Given as goal

abbrev pub invariant-loop-place : goal.invariant-loop-place
invariant-loop-place l = IsGatheredUpTo l.class.includes l.place l.inherited.features.items l.refusal
