use Rattle.std.proofs.Common.{ℕ, ◌<◌}
use Rattle.sa_overload.specs.Candidates.{call_in}
use Rattle.sa_overload.specs.Resolution.{Tied}
use Rattle.sa_overload.proofs.tie.tie_of.Given as goal

abbrev pub invariant-loop-j : goal.invariant-loop-j
invariant-loop-j l = (j : ℕ) → j < l.j → ¬ Tied (call_in l.call) l.i j
