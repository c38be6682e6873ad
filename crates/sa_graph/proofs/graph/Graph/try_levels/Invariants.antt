use Rattle.sa_graph.proofs.Trials.{RiseSoFar}
use Rattle.sa_graph.proofs.graph.Graph.try_levels.Given as goal

abbrev pub invariant-loop-place : goal.invariant-loop-place
invariant-loop-place l = RiseSoFar l.levels l.bound l.self l.place
