use Rattle.sa_cfg_semantics.proofs.Places.{runs_steps}
use Rattle.sa_cfg_semantics.proofs.law.runs_operations.Goals as goal

pub returns : goal.returns
returns c = runs_steps c.args.program.now c.args.rows.now
