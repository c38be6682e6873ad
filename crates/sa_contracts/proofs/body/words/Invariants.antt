use Rattle.std.proofs.Common.{◌≡◌, take}
use Rattle.std.specs.List.{flat_map}
use Rattle.sa_contracts.specs.AskedChecks.{declared_at}
use Rattle.sa_contracts.proofs.body.words.Given as goal

abbrev pub invariant-loop-s : goal.invariant-loop-s
invariant-loop-s l = l.words ≡ flat_map declared_at (take l.s-index l.declared)
