use Rattle.sa_include.specs.Resolved.{AreUndone}
use Rattle.sa_include.proofs.flattening.unresolved.Given as goal

abbrev pub invariant-loop : goal.invariant-loop
invariant-loop l = AreUndone l.list.items
