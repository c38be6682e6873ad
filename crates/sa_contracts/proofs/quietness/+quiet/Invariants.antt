use Rattle.std.proofs.Common.{◌≡◌, drop}
use Rattle.sa_typed.specs.Copy.{args_of}
use Rattle.sa_contracts.specs.Quiet.{are_quiet_args}
use Rattle.sa_contracts.proofs.quietness.+quiet.Given as goal

abbrev pub invariant-are_quiet_args-loop-arg : goal.invariant-are_quiet_args-loop-arg
invariant-are_quiet_args-loop-arg l = are_quiet_args (args_of l.args) ≡ are_quiet_args (args_of (drop l.arg-index l.args))
