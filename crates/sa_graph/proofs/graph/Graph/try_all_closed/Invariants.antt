use Rattle.sa_graph.proofs.Ways.{ClosedSoFar}
use Rattle.sa_graph.proofs.graph.Graph.try_all_closed.Given as goal

abbrev pub invariant-loop-place : goal.invariant-loop-place
invariant-loop-place l = ClosedSoFar l.self l.marks l.place
