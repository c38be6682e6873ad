use Rattle.std.proofs.Common.{◌≡◌, drop}
use Rattle.sa_typed.specs.Copy.{exprs_of}
use Rattle.sa_typing.specs.Contexts.{env}
use Rattle.sa_typing.specs.Statements.{are_tests}
use Rattle.sa_typing.proofs.stmt.are_tests.Given as goal

abbrev pub invariant-loop-e : goal.invariant-loop-e
invariant-loop-e l = are_tests (env l.scope) l.at (exprs_of l.list) ≡ are_tests (env l.scope) l.at (exprs_of (drop l.e-index l.list))
