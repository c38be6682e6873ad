use Rattle.sa_hierarchy.specs.Hierarchies.{AreCovered, tables}
use Rattle.sa_hierarchy.proofs.class_hierarchy.Hierarchy.try_covers.Given as goal

abbrev pub invariant-loop-place : goal.invariant-loop-place
invariant-loop-place l = AreCovered (tables l.self) l.edge l.first l.place
