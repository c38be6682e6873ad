use Rattle.wa_exec.proofs.OneRun.{are-one-run}
use Rattle.wa_exec.proofs.law.are_one_run.Goals as goal

pub returns : goal.returns
returns c = are-one-run c.args.program.now
