use Rattle.wa_encode.proofs.Adding.{Extends-from_Adds}
use Rattle.wa_encode.proofs.Productions.{Adds-module}
use Rattle.wa_encode.proofs.module.encode.Goals as goal

pub returns-clause-begins : goal.returns-clause-begins
returns-clause-begins c = Extends-from_Adds _ c.in_ok-out.ensures.items c.in_ok-sections.ensures

pub returns-clause-shortest : goal.returns-clause-shortest
returns-clause-shortest c = Adds-module _ _ _ c.in_ok-out.ensures.items c.in_ok-sections.ensures
