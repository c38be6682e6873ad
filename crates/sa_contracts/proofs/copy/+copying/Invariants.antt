use Rattle.std.proofs.Common.{◌≡◌, take}
use Rattle.sa_contracts.proofs.copy.+copying.Given as goal

abbrev pub invariant-copy_args-loop-arg : goal.invariant-copy_args-loop-arg
invariant-copy_args-loop-arg l = l.copies ≡ take l.arg-index l.args

abbrev pub invariant-copy_exprs-loop-e : goal.invariant-copy_exprs-loop-e
invariant-copy_exprs-loop-e l = l.copies ≡ take l.e-index l.list
