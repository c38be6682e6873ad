use Rattle.std.proofs.Common.{◌≡◌, ◌≤◌, length, take}
use Rattle.sa_unify.proofs.unification.difference.Given as goal

abbrev pub invariant-loop-i : goal.invariant-loop-i
invariant-loop-i l = record {
  same : take l.i l.one ≡ take l.i l.other;
  within : l.i ≤ length l.other;
}
