use Rattle.sa_include_conflicts.proofs.FirstConflict.{SoFar}
use Rattle.sa_include_conflicts.proofs.conflicts.first_conflict.Given as goal

abbrev pub invariant-loop-place : goal.invariant-loop-place
invariant-loop-place l = SoFar l.conflicts l.stays l.from l.place l.marks
