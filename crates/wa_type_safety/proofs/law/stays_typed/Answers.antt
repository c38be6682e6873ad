use Rattle.wa_type_safety.proofs.Runs.{stays-typed}
use Rattle.wa_type_safety.proofs.law.stays_typed.Goals as goal

pub returns : goal.returns
returns c = stays-typed c.args.program.now
