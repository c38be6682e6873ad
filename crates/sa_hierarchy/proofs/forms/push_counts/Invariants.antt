use Rattle.std.proofs.Common.{◌≡◌, ◌++◌}
use Rattle.sa_hierarchy.specs.Hierarchies.{counts}
use Rattle.sa_hierarchy.proofs.forms.push_counts.Given as goal

abbrev pub invariant-loop-number : goal.invariant-loop-number
invariant-loop-number l = l.nodes.items ≡ l.initial.nodes.items ++ counts 0 l.number
