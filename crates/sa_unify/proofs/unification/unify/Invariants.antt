use Rattle.sa_unify.proofs.Rounds.{IsRound}
use Rattle.sa_unify.proofs.unification.unify.Given as goal

abbrev pub invariant-rounds : goal.invariant-rounds
invariant-rounds l = IsRound l.fn.kept.items l.fn.one.items l.fn.other.items l.kept.items l.one.items l.other.items
