use Rattle.std.proofs.Common.{◌≡◌, None, drop}
use Rattle.sa_typing.specs.Types.{rises_from}
use Rattle.sa_typing.proofs.types.is_rising.Given as goal

abbrev pub invariant-loop-item : goal.invariant-loop-item
invariant-loop-item l = rises_from None l.list ≡ rises_from l.last (drop l.item-index l.list)
