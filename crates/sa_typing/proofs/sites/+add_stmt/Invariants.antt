use Rattle.std.proofs.Common.{◌≡◌, ◌++◌, drop}
use Rattle.sa_typed.specs.Copy.{arms_of, block_of, tests_of}
use Rattle.sa_typing.specs.Contexts.{env}
use Rattle.sa_typing.specs.Sites.{branches_sites, cases_sites, stmts_sites, tests_sites}
use Rattle.sa_typing.proofs.sites.+add_stmt.Given as goal

abbrev pub invariant-add_stmts-loop-stmt : goal.invariant-add_stmts-loop-stmt
invariant-add_stmts-loop-stmt l =
    l.found.items ++ stmts_sites (env l.scope) l.at (block_of (drop l.stmt-index l.list)) ≡ l.initial.found.items ++ stmts_sites (env l.scope) l.at (block_of l.list)

abbrev pub invariant-add_tests-loop-entry : goal.invariant-add_tests-loop-entry
invariant-add_tests-loop-entry l =
    l.found.items ++ tests_sites (env l.scope) l.at (tests_of (drop l.entry-index l.list)) ≡ l.initial.found.items ++ tests_sites (env l.scope) l.at (tests_of l.list)

abbrev pub invariant-add_cases-loop-arm : goal.invariant-add_cases-loop-arm
invariant-add_cases-loop-arm l =
    l.found.items ++ cases_sites (env l.scope) l.at (arms_of (drop l.arm-index l.arms)) ≡ l.initial.found.items ++ cases_sites (env l.scope) l.at (arms_of l.arms)

abbrev pub invariant-add_branches-loop-arm : goal.invariant-add_branches-loop-arm
invariant-add_branches-loop-arm l =
    l.found.items ++ branches_sites (env l.scope) l.at (arms_of (drop l.arm-index l.arms)) ≡ l.initial.found.items ++ branches_sites (env l.scope) l.at (arms_of l.arms)
