use Rattle.std.proofs.Common.{◌≡◌, drop}
use Rattle.std.specs.Cmp.Lexicographic.{pointwise}
use Rattle.sa_overload.specs.Specificity.{is_param_as_specific}
use Rattle.sa_overload.proofs.specificity.are_params_as_specific.Given as goal

abbrev pub invariant-loop-i : goal.invariant-loop-i
invariant-loop-i l =
    pointwise (is_param_as_specific l.edges) l.one l.other ≡ pointwise (is_param_as_specific l.edges) (drop l.i l.one) (drop l.i l.other)
