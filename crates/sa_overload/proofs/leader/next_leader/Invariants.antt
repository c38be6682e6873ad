use Rattle.std.proofs.Common.{ℕ, ◌≤◌, ◌<◌}
use Rattle.std.specs.Prelude.{IfSome, IsTrue}
use Rattle.sa_overload.specs.Candidates.{call_in}
use Rattle.sa_overload.specs.Resolution.{Leads, fits_at}
use Rattle.sa_overload.proofs.leader.next_leader.Given as goal

abbrev pub invariant-loop-k : goal.invariant-loop-k
invariant-loop-k l = record {
  asked : IfSome l.asked_first (λ j. IsTrue (fits_at (call_in l.call) j));
  none : (j : ℕ) → l.fn.from ≤ j → j < l.k → ¬ Leads (call_in l.call) j;
}
