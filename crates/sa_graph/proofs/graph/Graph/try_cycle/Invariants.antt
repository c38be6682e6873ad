use Rattle.sa_graph.proofs.Trials.{WayBack}
use Rattle.sa_graph.proofs.graph.Graph.try_cycle.Given as goal

abbrev pub invariant-back : goal.invariant-back
invariant-back l = WayBack l.self l.at l.node
