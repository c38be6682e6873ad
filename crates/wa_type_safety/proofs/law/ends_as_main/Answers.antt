use Rattle.wa_type_safety.proofs.Runs.{ends-as-main}
use Rattle.wa_type_safety.proofs.law.ends_as_main.Goals as goal

pub returns : goal.returns
returns c = ends-as-main c.args.program.now
