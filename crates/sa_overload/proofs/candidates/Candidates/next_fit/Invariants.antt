use Rattle.std.proofs.Common.{ℕ, ◌≤◌, ◌<◌}
use Rattle.std.specs.Prelude.{IsFalse}
use Rattle.sa_overload.specs.Candidates.{call_in}
use Rattle.sa_overload.specs.Resolution.{fits_at}
use Rattle.sa_overload.proofs.candidates.Candidates.next_fit.Given as goal

abbrev pub invariant-loop-k : goal.invariant-loop-k
invariant-loop-k l = (j : ℕ) → l.fn.from ≤ j → j < l.k → IsFalse (fits_at (call_in l.self) j)
