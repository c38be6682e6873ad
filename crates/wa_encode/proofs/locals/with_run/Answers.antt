use Rattle.wa_encode.proofs.LongestRuns.{AreLongestTo-joined, AreLongestTo-pushed}
use Rattle.wa_encode.proofs.locals.with_run.Goals as goal

pub returns-in-Some-clause-longest : goal.returns-in-Some-clause-longest
returns-in-Some-clause-longest c = AreLongestTo-joined _ _ c.args.run _ c.in-Some.ensures.some

pub returns-in_ok-push-in-None-clause-longest : goal.returns-in_ok-push-in-None-clause-longest
returns-in_ok-push-in-None-clause-longest c = λ h.
    rw c.in_ok-push-in-None.ensures.items (AreLongestTo-pushed _ _ _ c.in-None.ensures.none h)
