use Rattle.std.proofs.Common.{◌∙◌}
use Rattle.std.proofs.lemmas.Result.{on_ok_weaker}
use Rattle.wa_syntax.specs.Binary.{run}
use Rattle.wa_encode.proofs.Adding.{Adds-vec-called}
use Rattle.wa_encode.proofs.LongestRuns.{Adds-locals}
use Rattle.wa_encode.proofs.locals.locals.Goals as goal

pub returns : goal.returns
returns c =
    on_ok_weaker _ (λ h. Adds-locals c.args.locals.now _ _ _ (c.in_ok-runs.ensures.same ∙ c.runs.ensures) c.in_ok-runs.ensures.longest (Adds-vec-called run _ _ _ _ _ c.as_slice.ensures.value (λ old shown new k. k) h)) c.vector.ensures
