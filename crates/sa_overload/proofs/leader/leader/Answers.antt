use Rattle.std.proofs.Common.{arith}
use Rattle.sa_overload.proofs.Choices.{two_lead}
use Rattle.sa_overload.proofs.leader.leader.Goals as goal

pub returns-in-Some-clause-none : goal.returns-in-Some-clause-none
returns-in-Some-clause-none c =
    λ none k. two_lead _ _ _ k (omega (arith, c.in-Some.ensures.order)) c.in_ok-first.ensures.leads c.in-Some.ensures.leads
