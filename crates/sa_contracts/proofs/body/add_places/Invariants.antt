use Rattle.std.proofs.Common.{◌≡◌, ◌++◌, take}
use Rattle.sa_contracts.specs.AskedChecks.{name_positions}
use Rattle.sa_contracts.proofs.body.add_places.Given as goal

abbrev pub invariant-loop-name : goal.invariant-loop-name
invariant-loop-name l = l.words ≡ l.initial.words ++ name_positions (take l.name-index l.names)
