use Rattle.std.proofs.Common.{◌≡◌, drop}
use Rattle.sa_typed.specs.Copy.{block_of, tests_of, arms_of}
use Rattle.sa_contracts.specs.NotQuiet.{plain_checks, first_in_block, first_in_tests, first_in_arms}
use Rattle.sa_contracts.proofs.checks.+statement.Given as goal

abbrev pub invariant-first_in_block-loop-s : goal.invariant-first_in_block-loop-s
invariant-first_in_block-loop-s l = first_in_block (plain_checks l.woven) (block_of l.list) ≡ first_in_block (plain_checks l.woven) (block_of (drop l.s-index l.list))

abbrev pub invariant-first_in_tests-loop-test : goal.invariant-first_in_tests-loop-test
invariant-first_in_tests-loop-test l = first_in_tests (plain_checks l.woven) (tests_of l.tests) ≡ first_in_tests (plain_checks l.woven) (tests_of (drop l.test-index l.tests))

abbrev pub invariant-first_in_arms-loop-arm : goal.invariant-first_in_arms-loop-arm
invariant-first_in_arms-loop-arm l = first_in_arms (plain_checks l.woven) (arms_of l.arms) ≡ first_in_arms (plain_checks l.woven) (arms_of (drop l.arm-index l.arms))
