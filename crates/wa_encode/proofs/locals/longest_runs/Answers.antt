use Rattle.wa_encode.proofs.LongestRuns.{AreLongest-none}
use Rattle.wa_encode.proofs.locals.longest_runs.Goals as goal

pub returns-then-last-eq0-clause-longest : goal.returns-then-last-eq0-clause-longest
returns-then-last-eq0-clause-longest c = AreLongest-none _ _ c.if-last-eq0.true c.loop-run.invariant.longest
