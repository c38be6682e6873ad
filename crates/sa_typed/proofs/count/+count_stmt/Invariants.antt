use Rattle.std.proofs.Common.{◌≡◌, ◌+◌, ◌≤◌, drop}
use Rattle.sa_typed.specs.Copy.{block_of, tests_of, arms_of}
use Rattle.sa_typed.specs.Nodes.{capped, stmts_nodes, tests_nodes, arms_nodes}
use Rattle.sa_typed.proofs.count.+count_stmt.Given as goal

abbrev pub invariant-count_stmts-loop-stmt : goal.invariant-count_stmts-loop-stmt
invariant-count_stmts-loop-stmt l =
    (capped (l.count + stmts_nodes (block_of (drop l.stmt-index l.stmts))) ≡ capped (l.initial.count + stmts_nodes (block_of l.stmts))) × (l.count ≤ 4294967295)

abbrev pub invariant-count_tests-loop-test : goal.invariant-count_tests-loop-test
invariant-count_tests-loop-test l =
    (capped (l.count + tests_nodes (tests_of (drop l.test-index l.tests))) ≡ capped (l.initial.count + tests_nodes (tests_of l.tests))) × (l.count ≤ 4294967295)

abbrev pub invariant-count_arms-loop-arm : goal.invariant-count_arms-loop-arm
invariant-count_arms-loop-arm l =
    (capped (l.count + arms_nodes (arms_of (drop l.arm-index l.arms))) ≡ capped (l.initial.count + arms_nodes (arms_of l.arms))) × (l.count ≤ 4294967295)
