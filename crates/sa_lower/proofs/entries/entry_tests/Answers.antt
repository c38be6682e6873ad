use Rattle.sa_lower_expr.specs.Typed.{HasValue}
use Rattle.sa_lower.proofs.StmtParts.{following, item}
use Rattle.sa_lower.proofs.entries.entry_tests.Goals as goal

pub next_test-requires : goal.next_test-requires
next_test-requires c = item (HasValue _ _) _ _ _ c.loop-test-test.true c.test-item.is (following (HasValue _ _) _ _ _ c.in-Some.ensures.cases.0 c.requires)
