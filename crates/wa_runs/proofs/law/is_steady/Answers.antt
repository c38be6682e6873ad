use Rattle.wa_runs.proofs.Steady.{machine-steady}
use Rattle.wa_runs.proofs.law.is_steady.Goals as goal

pub returns : goal.returns
returns c = machine-steady c.args.program.now
