use Rattle.std.proofs.Common.{◌≡◌, drop}
use Rattle.std.specs.Cmp.Lexicographic.{pointwise}
use Rattle.sa_overload.specs.Conflict.{args_clash}
use Rattle.sa_overload.proofs.conflicts.all_clash.Given as goal

abbrev pub invariant-loop-i : goal.invariant-loop-i
invariant-loop-i l = pointwise args_clash l.f l.g ≡ pointwise args_clash (drop l.i l.f) (drop l.i l.g)
