use Rattle.std.proofs.Common.{◌≡◌, drop}
use Rattle.std.specs.Cmp.Lexicographic.{pointwise}
use Rattle.std.specs.Ordering.{on}
use Rattle.sa_ast.specs.TypeEquality.{same_type, same_arg}
use Rattle.sa_ast.specs.Types.{bare, bare_arg}
use Rattle.sa_ast.proofs.ty.+same.Given as goal

abbrev pub invariant-are_same_args-loop-i : goal.invariant-are_same_args-loop-i
invariant-are_same_args-loop-i l =
    pointwise (on bare_arg same_arg) l.one l.other ≡ pointwise (on bare_arg same_arg) (drop l.i l.one) (drop l.i l.other)

abbrev pub invariant-are_same_params-loop-i : goal.invariant-are_same_params-loop-i
invariant-are_same_params-loop-i l =
    pointwise (on bare same_type) l.one l.other ≡ pointwise (on bare same_type) (drop l.i l.one) (drop l.i l.other)
