use Rattle.std.proofs.Common.{◌≡◌, map, take}
use Rattle.sa_subst.specs.Table.{put_in}
use Rattle.sa_subst.specs.Trees.{expr_with, argument_with}
use Rattle.sa_subst.proofs.expression.+expression.Given as goal

abbrev pub invariant-arguments-loop-arg : goal.invariant-arguments-loop-arg
invariant-arguments-loop-arg l = l.copies ≡ map (argument_with (put_in l.by)) (take l.arg-index l.args)

abbrev pub invariant-exprs-loop-e : goal.invariant-exprs-loop-e
invariant-exprs-loop-e l = l.copies ≡ map (expr_with (put_in l.by)) (take l.e-index l.list)
