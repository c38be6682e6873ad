use Rattle.std.proofs.Common.{◌≡◌, drop}
use Rattle.sa_typing.specs.Rows.{rows}
use Rattle.sa_typing.specs.Types.{has_next}
use Rattle.sa_typing.proofs.types.has_next.Given as goal

abbrev pub invariant-loop-upper : goal.invariant-loop-upper
invariant-loop-upper l = has_next (rows l.view) l.above l.list ≡ has_next (rows l.view) l.above (drop l.upper-index l.list)
