-- A protect, with the statements of its `else` or without, and a test and a branch in which a check is loud.
use Rattle.std.proofs.Common.{sym, ◌∙◌, arith}
use Rattle.std.proofs.lemmas.Grind.{common_steps}
use Rattle.sa_contracts.specs.NotQuiet.{plain_checks}
use Rattle.sa_contracts.proofs.FirstAt.{test-found, arm-found, protect-None, protect-Some}
use Rattle.sa_contracts.proofs.checks.+statement.Goals as goal

pub first_in-returns-in-Some-other : goal.first_in-returns-in-Some-other
first_in-returns-in-Some-other t c =
    grind (arith, common_steps, protect-Some (plain_checks c.args.woven.now) c.args.s.now _ _ _ _ c.in-Protect.is c.in-Some-other.is)

pub first_in-returns-in-None-other : goal.first_in-returns-in-None-other
first_in-returns-in-None-other t c =
    grind (arith, common_steps, protect-None (plain_checks c.args.woven.now) c.args.s.now _ _ _ c.in-Protect.is c.in-None-other.is)

pub first_in_tests-returns-then-is_some : goal.first_in_tests-returns-then-is_some
first_in_tests-returns-then-is_some t c =
    sym (c.loop-test.invariant
    ∙ test-found (plain_checks c.args.woven.now) c.args.tests.now c.loop-test.test-index c.test-item.result c.as_slice.result.now c.first_in_block-found.result (omega arith) c.test-item.is c.as_slice.ensures c.first_in_block-found.ensures (sym c.is_some.ensures ∙ c.if-is_some.true))

pub first_in_arms-returns-then-is_some : goal.first_in_arms-returns-then-is_some
first_in_arms-returns-then-is_some t c =
    sym (c.loop-arm.invariant
    ∙ arm-found (plain_checks c.args.woven.now) c.args.arms.now c.loop-arm.arm-index c.arm-item.result c.as_slice.result.now c.first_in_block-found.result (omega arith) c.arm-item.is c.as_slice.ensures c.first_in_block-found.ensures (sym c.is_some.ensures ∙ c.if-is_some.true))
