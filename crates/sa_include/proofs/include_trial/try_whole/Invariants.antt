use Rattle.sa_include.proofs.Bringing.{TriedUpTo}
use Rattle.sa_include.proofs.include_trial.try_whole.Given as goal

abbrev pub invariant-loop-place : goal.invariant-loop-place
invariant-loop-place l = TriedUpTo l.classes l.whole l.place
