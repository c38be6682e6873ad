use Rattle.std.proofs.Common.{◌≡◌, ◌++◌, drop}
use Rattle.sa_typed.specs.Copy.{exprs_of, args_of}
use Rattle.sa_typed.specs.PositionList.{exprs_positions, args_positions}
use Rattle.sa_typed.proofs.position_list.+add_expr.Given as goal

abbrev pub invariant-add_exprs-loop-expr : goal.invariant-add_exprs-loop-expr
invariant-add_exprs-loop-expr l =
    l.found ++ exprs_positions (exprs_of (drop l.expr-index l.exprs)) ≡ l.initial.found ++ exprs_positions (exprs_of l.exprs)

abbrev pub invariant-add_args-loop-arg : goal.invariant-add_args-loop-arg
invariant-add_args-loop-arg l =
    l.found ++ args_positions (args_of (drop l.arg-index l.args)) ≡ l.initial.found ++ args_positions (args_of l.args)
