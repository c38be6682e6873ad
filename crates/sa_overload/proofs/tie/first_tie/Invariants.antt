use Rattle.std.proofs.Common.{ℕ, ◌<◌}
use Rattle.sa_overload.specs.Candidates.{call_in}
use Rattle.sa_overload.specs.Resolution.{Tied}
use Rattle.sa_overload.proofs.tie.first_tie.Given as goal

abbrev pub invariant-loop-i : goal.invariant-loop-i
invariant-loop-i l = (i j : ℕ) → i < l.i → ¬ Tied (call_in l.call) i j
