use Rattle.std.proofs.Common.{◌≡◌, ◌+◌, ◌≤◌, drop}
use Rattle.sa_typed.specs.Copy.{exprs_of, args_of}
use Rattle.sa_typed.specs.Nodes.{capped, exprs_nodes, args_nodes}
use Rattle.sa_typed.proofs.count.+count_expr.Given as goal

abbrev pub invariant-count_exprs-loop-expr : goal.invariant-count_exprs-loop-expr
invariant-count_exprs-loop-expr l =
    (capped (l.count + exprs_nodes (exprs_of (drop l.expr-index l.exprs))) ≡ capped (l.initial.count + exprs_nodes (exprs_of l.exprs))) × (l.count ≤ 4294967295)

abbrev pub invariant-count_args-loop-arg : goal.invariant-count_args-loop-arg
invariant-count_args-loop-arg l =
    (capped (l.count + args_nodes (args_of (drop l.arg-index l.args))) ≡ capped (l.initial.count + args_nodes (args_of l.args))) × (l.count ≤ 4294967295)
