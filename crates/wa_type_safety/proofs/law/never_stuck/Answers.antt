use Rattle.wa_type_safety.proofs.Runs.{never-stuck}
use Rattle.wa_type_safety.proofs.law.never_stuck.Goals as goal

pub returns : goal.returns
returns c = never-stuck c.args.program.now
