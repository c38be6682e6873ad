use Rattle.sa_graph.proofs.Ways.{OnWaySoFar}
use Rattle.sa_graph.proofs.graph.Graph.try_all_ways.Given as goal

abbrev pub invariant-loop-number : goal.invariant-loop-number
invariant-loop-number l = OnWaySoFar l.self l.ways l.to l.number
