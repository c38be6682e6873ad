use Rattle.sa_include_conflicts.proofs.Grouping.{GroupedUpTo}
use Rattle.sa_include_conflicts.proofs.conflicts.group_features.Given as goal

abbrev pub invariant-loop-place : goal.invariant-loop-place
invariant-loop-place l = GroupedUpTo l.features l.place l.grouping l.of.items
