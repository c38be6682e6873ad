use Rattle.std.proofs.Common.{◌≡◌, drop}
use Rattle.std.specs.Cmp.Lexicographic.{pointwise}
use Rattle.sa_typing.specs.Rows.{rows}
use Rattle.sa_typing.specs.Types.{is_param_alike}
use Rattle.sa_typing.proofs.types.are_params_alike.Given as goal

abbrev pub invariant-loop-i : goal.invariant-loop-i
invariant-loop-i l = pointwise (is_param_alike (rows l.view)) l.lower l.upper ≡ pointwise (is_param_alike (rows l.view)) (drop l.i l.lower) (drop l.i l.upper)
