use Rattle.sa_type_safety.proofs.Runs.{never_stuck}
use Rattle.sa_type_safety.proofs.law.never_stuck.Goals as goal

pub returns : goal.returns
returns c = never_stuck c.args.core.now
