use Rattle.std.proofs.Common.{take}
use Rattle.sa_include_names.specs.Tables.{AddsEdges, NamesHere}
use Rattle.sa_include_names.proofs.graph.Edges.add_clauses.Given as goal

abbrev pub invariant-loop-include : goal.invariant-loop-include
invariant-loop-include l = AddsEdges l.number (NamesHere l.params l.numbers (take l.include-index l.includes)) l.fn.self l.self
