use Rattle.sa_include_names.proofs.Clauses.{AreEdgesUpTo}
use Rattle.sa_include_names.proofs.graph.Edges.new.Given as goal

abbrev pub invariant-loop-place : goal.invariant-loop-place
invariant-loop-place l = AreEdgesUpTo l.classes l.place l.edges
