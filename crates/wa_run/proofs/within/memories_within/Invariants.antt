use Rattle.std.proofs.Common.{◌≡◌, map, take}
use Rattle.wa_run.specs.Within.{limits_within}
use Rattle.wa_run.proofs.within.memories_within.Given as goal

abbrev pub invariant-loop-limits : goal.invariant-loop-limits
invariant-loop-limits l = l.bounded ≡ map (limits_within l.pages) (take l.limits-index l.memories)
