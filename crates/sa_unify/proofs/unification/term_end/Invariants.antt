use Rattle.std.proofs.Common.{◌≡◌, drop}
use Rattle.sa_unify.specs.Terms.{following}
use Rattle.sa_unify.proofs.unification.term_end.Given as goal

abbrev pub invariant-loop-i : goal.invariant-loop-i
invariant-loop-i l = following (drop l.fn.at l.nodes) 1 ≡ following (drop l.i l.nodes) l.missing
