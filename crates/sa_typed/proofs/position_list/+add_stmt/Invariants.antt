use Rattle.std.proofs.Common.{◌≡◌, ◌++◌, drop}
use Rattle.sa_typed.specs.Copy.{block_of, tests_of, arms_of}
use Rattle.sa_typed.specs.PositionList.{stmts_positions, tests_positions, arms_positions}
use Rattle.sa_typed.proofs.position_list.+add_stmt.Given as goal

abbrev pub invariant-add_stmts-loop-stmt : goal.invariant-add_stmts-loop-stmt
invariant-add_stmts-loop-stmt l =
    l.found ++ stmts_positions (block_of (drop l.stmt-index l.stmts)) ≡ l.initial.found ++ stmts_positions (block_of l.stmts)

abbrev pub invariant-add_tests-loop-test : goal.invariant-add_tests-loop-test
invariant-add_tests-loop-test l =
    l.found ++ tests_positions (tests_of (drop l.test-index l.tests)) ≡ l.initial.found ++ tests_positions (tests_of l.tests)

abbrev pub invariant-add_arms-loop-arm : goal.invariant-add_arms-loop-arm
invariant-add_arms-loop-arm l =
    l.found ++ arms_positions (arms_of (drop l.arm-index l.arms)) ≡ l.initial.found ++ arms_positions (arms_of l.arms)
