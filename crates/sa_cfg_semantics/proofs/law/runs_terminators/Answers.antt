use Rattle.sa_cfg_semantics.proofs.Places.{runs_exits}
use Rattle.sa_cfg_semantics.proofs.law.runs_terminators.Goals as goal

pub returns : goal.returns
returns c = runs_exits c.args.program.now c.args.rows.now
