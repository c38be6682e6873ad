use Rattle.std.proofs.Common.{arith}
use Rattle.std.proofs.lemmas.Grind.{common_steps}
use Rattle.sa_include_names.proofs.Verdicts.{graph_of}
use Rattle.sa_include_names.proofs.graph.include_graph.Goals as goal

pub returns : goal.returns
returns c =
    graph_of c.args.classes.now c.in_ok-starts.field-0 c.in_ok-graph.graph c.in_ok-starts.ensures c.in_ok-graph.ensures.count
    (grind (arith, common_steps, c.in_ok-graph.ensures.starts, c.in_ok-starts.starts-is)) (grind (arith, common_steps, c.in_ok-graph.ensures.ends, c.in_ok-starts.ends-is))
