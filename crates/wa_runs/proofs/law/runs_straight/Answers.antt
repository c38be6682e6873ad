use Rattle.wa_runs.proofs.StraightLine.{straight}
use Rattle.wa_runs.proofs.law.runs_straight.Goals as goal

pub returns : goal.returns
returns c = straight c.args.program.now
