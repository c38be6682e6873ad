-- One test more: none of its expressions is loud, or one is.
use Rattle.std.proofs.Common.{sym, ◌∙◌, arith}
use Rattle.sa_contracts.proofs.FirstAt.{tests-passed, tests-found}
use Rattle.sa_contracts.proofs.checks.loud_tests.Goals as goal

pub returns-then-is_some : goal.returns-then-is_some
returns-then-is_some c =
    sym (c.loop-test.invariant
    ∙ tests-found c.args.check c.args.tests.now c.loop-test.test-index c.test-item.result c.as_slice.result.now c.loud_exprs-found.result (omega arith) c.test-item.is c.as_slice.ensures c.loud_exprs-found.ensures (sym c.is_some.ensures ∙ c.if-is_some.true))

pub loop-test-preserved : goal.loop-test-preserved
loop-test-preserved c =
    c.loop-test.invariant
    ∙ tests-passed c.args.check c.args.tests.now c.loop-test.test-index c.test-item.result c.as_slice.result.now c.loud_exprs-found.result (omega arith) c.test-item.is c.as_slice.ensures c.loud_exprs-found.ensures (sym c.is_some.ensures ∙ c.if-is_some.false)
