use Rattle.wa_flatten.proofs.Places.{places-new}
use Rattle.wa_flatten.proofs.table.TableInstance.new.Goals as goal

pub returns : goal.returns
returns c = places-new _ _ _ _ _ c.new.result c.in_ok-resize.ensures.items c.new-listed.ensures.items c.new.ensures.empty
