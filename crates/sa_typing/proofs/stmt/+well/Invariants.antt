use Rattle.std.proofs.Common.{◌≡◌, drop, Some}
use Rattle.sa_typed.specs.Copy.{arms_of, block_of, tests_of}
use Rattle.sa_typing.specs.Contexts.{env}
use Rattle.sa_typing.specs.Statements.{well_branches, well_cases, well_stmts, well_tests}
use Rattle.sa_typing.proofs.stmt.+well.Given as goal

abbrev pub invariant-well_stmts-loop-stmt : goal.invariant-well_stmts-loop-stmt
invariant-well_stmts-loop-stmt l = well_stmts (env l.scope) l.at (block_of l.list) ≡ well_stmts (env l.scope) l.at (block_of (drop l.stmt-index l.list))

abbrev pub invariant-well_tests-loop-entry : goal.invariant-well_tests-loop-entry
invariant-well_tests-loop-entry l = well_tests (env l.scope) l.at (tests_of l.list) ≡ well_tests (env l.scope) l.at (tests_of (drop l.entry-index l.list))

abbrev pub invariant-well_cases-loop-arm : goal.invariant-well_cases-loop-arm
invariant-well_cases-loop-arm l = well_cases (env l.scope) l.at (Some l.own) (arms_of l.arms) ≡ well_cases (env l.scope) l.at (Some l.own) (arms_of (drop l.arm-index l.arms))

abbrev pub invariant-well_branches-loop-arm : goal.invariant-well_branches-loop-arm
invariant-well_branches-loop-arm l = well_branches (env l.scope) l.at (arms_of l.arms) ≡ well_branches (env l.scope) l.at (arms_of (drop l.arm-index l.arms))
