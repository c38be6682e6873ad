use Rattle.sa_hierarchy.specs.Hierarchies.{tables}
use Rattle.sa_hierarchy.proofs.Trials.{LinksSoFar}
use Rattle.sa_hierarchy.proofs.class_hierarchy.Hierarchy.try_links.Given as goal

abbrev pub invariant-loop-class : goal.invariant-loop-class
invariant-loop-class l = LinksSoFar (tables l.self) l.links l.class
