use Rattle.std.proofs.Common.{sym, ◌∙◌}
use Rattle.wa_syntax.proofs.Runs.{slice_get-in_run, slice_get-after_run}
use Rattle.wa_syntax.proofs.locals.type_at.Goals as goal

pub returns-then-rest-run : goal.returns-then-rest-run
returns-then-rest-run c =
    sym (slice_get-in_run _ _ _ _ c.loop-run-test.true c.if-rest-run.true) ∙ c.loop-run.invariant

pub loop-run-preserved : goal.loop-run-preserved
loop-run-preserved c =
    sym (slice_get-after_run _ _ _ _ c.loop-run-test.true c.if-rest-run.false) ∙ c.loop-run.invariant
