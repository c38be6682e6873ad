use Rattle.sa_hierarchy.specs.Hierarchies.{tables}
use Rattle.sa_hierarchy.proofs.Kept.{WrittenSoFar}
use Rattle.sa_hierarchy.proofs.class_hierarchy.Hierarchy.try_written.Given as goal

abbrev pub invariant-loop-number : goal.invariant-loop-number
invariant-loop-number l = WrittenSoFar (tables l.self) l.written l.number
