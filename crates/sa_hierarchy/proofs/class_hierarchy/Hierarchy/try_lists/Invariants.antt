use Rattle.sa_hierarchy.specs.Hierarchies.{tables}
use Rattle.sa_hierarchy.proofs.Trials.{ListsSoFar}
use Rattle.sa_hierarchy.proofs.class_hierarchy.Hierarchy.try_lists.Given as goal

abbrev pub invariant-loop-place : goal.invariant-loop-place
invariant-loop-place l = ListsSoFar (tables l.self) l.above l.place
