use Rattle.std.proofs.lemmas.Result.{on_ok_weaker}
use Rattle.wa_encode.proofs.Adding.{Adds-u32}
use Rattle.wa_encode.proofs.value.number.Goals as goal

pub returns : goal.returns
returns c = on_ok_weaker _ (Adds-u32 c.args.n.now _ _) c.write_u32.ensures.ok
