use Rattle.std.proofs.Common.{◌≡◌, drop}
use Rattle.sa_typed.specs.Copy.{tests_of}
use Rattle.sa_contracts.specs.NotQuiet.{loud_tests}
use Rattle.sa_contracts.proofs.checks.loud_tests.Given as goal

abbrev pub invariant-loop-test : goal.invariant-loop-test
invariant-loop-test l = loud_tests l.check (tests_of l.tests) ≡ loud_tests l.check (tests_of (drop l.test-index l.tests))
