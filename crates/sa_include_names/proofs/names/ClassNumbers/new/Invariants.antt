use Rattle.sa_include_names.proofs.Numbers.{NumbersSoFar}
use Rattle.sa_include_names.proofs.names.ClassNumbers.new.Given as goal

abbrev pub invariant-loop-place : goal.invariant-loop-place
invariant-loop-place l = NumbersSoFar l.classes l.place l.numbers
