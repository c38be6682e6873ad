use Rattle.std.proofs.Common.{◌≡◌, drop}
use Rattle.std.specs.Cmp.Lexicographic.{pointwise}
use Rattle.sa_overload.specs.Fit.{takes}
use Rattle.sa_overload.proofs.fit.take_all.Given as goal

abbrev pub invariant-loop-i : goal.invariant-loop-i
invariant-loop-i l = pointwise (takes l.edges) l.params l.args ≡ pointwise (takes l.edges) (drop l.i l.params) (drop l.i l.args)
