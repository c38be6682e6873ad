use Rattle.std.proofs.Common.{ℕ, ◌≤◌, ◌<◌}
use Rattle.std.specs.Prelude.{IsTrue}
use Rattle.sa_overload.specs.Candidates.{call_in}
use Rattle.sa_overload.specs.Resolution.{fits_at, is_before}
use Rattle.sa_overload.proofs.leader.objector_in.Given as goal

abbrev pub invariant-loop-j : goal.invariant-loop-j
invariant-loop-j l =
    (j : ℕ) → l.fn.from ≤ j → j < l.j → IsTrue (fits_at (call_in l.call) j) → IsTrue (is_before (call_in l.call) l.k j)
