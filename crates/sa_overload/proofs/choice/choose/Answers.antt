use Rattle.sa_overload.proofs.Choices.{first_two, named, named_as}
use Rattle.sa_overload.specs.Candidates.{call_in}
use Rattle.sa_overload.proofs.choice.choose.Goals as goal

pub returns-clause-several : goal.returns-clause-several
returns-clause-several c = λ i j several.
    let call = call_in c.new-call.result in
    let first = c.in-Some.ensures in
    let second = c.in-Some-next_fit.ensures in
    let two = first_two call c.in-Some.first c.in-Some-next_fit.second second.order first.found second.found first.first second.first in
    let tie = c.first_tie.ensures in
    let names = named call c.first_tie.result (c.in-Some.first, c.in-Some-next_fit.second) c.unwrap_or-i.result two tie.found tie.none c.unwrap_or-i.ensures in
    named_as call _ c.unwrap_or-i.result i j c.new-call.ensures several names
