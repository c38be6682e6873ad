use Rattle.std.proofs.Common.{refl, sym}
use Rattle.sa_overload.proofs.Choices.{before_others}
use Rattle.sa_overload.specs.Candidates.{call_in}
use Rattle.sa_overload.proofs.leader.objector.Goals as goal

pub returns-in-None-clause-none : goal.returns-in-None-clause-none
returns-in-None-clause-none c =
    λ gone. before_others (call_in c.args.call.now) c.args.k c.len.result (sym c.len.ensures) (c.in-None.ensures.none refl) (c.objector_in-in-None.ensures.none gone)
