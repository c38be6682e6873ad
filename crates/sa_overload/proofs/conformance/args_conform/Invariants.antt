use Rattle.std.proofs.Common.{◌≡◌, drop}
use Rattle.std.specs.Cmp.Lexicographic.{pointwise}
use Rattle.sa_overload.specs.Conformance.{arg_conforms}
use Rattle.sa_overload.proofs.conformance.args_conform.Given as goal

abbrev pub invariant-loop-i : goal.invariant-loop-i
invariant-loop-i l = pointwise (arg_conforms l.edges) l.f l.g ≡ pointwise (arg_conforms l.edges) (drop l.i l.f) (drop l.i l.g)
