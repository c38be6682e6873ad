use Rattle.wa_type_safety.proofs.Spelled.{spelled-in_range}
use Rattle.wa_type_safety.proofs.law.spelled_is_in_range.Goals as goal

pub returns : goal.returns
returns c = spelled-in_range c.args.program.now
