use Rattle.std.proofs.Common.{◌≡◌, drop}
use Rattle.sa_typed.specs.Copy.{exprs_of}
use Rattle.sa_contracts.specs.NotQuiet.{loud_exprs}
use Rattle.sa_contracts.proofs.checks.loud_exprs.Given as goal

abbrev pub invariant-loop-e : goal.invariant-loop-e
invariant-loop-e l = loud_exprs l.check (exprs_of l.list) ≡ loud_exprs l.check (exprs_of (drop l.e-index l.list))
