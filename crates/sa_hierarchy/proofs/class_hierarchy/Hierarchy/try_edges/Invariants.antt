use Rattle.sa_hierarchy.specs.Hierarchies.{tables}
use Rattle.sa_hierarchy.proofs.Trials.{EdgesSoFar}
use Rattle.sa_hierarchy.proofs.class_hierarchy.Hierarchy.try_edges.Given as goal

abbrev pub invariant-loop-number : goal.invariant-loop-number
invariant-loop-number l = EdgesSoFar (tables l.self) l.edges l.number
