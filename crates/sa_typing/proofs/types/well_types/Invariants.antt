use Rattle.std.proofs.Common.{◌≡◌, drop}
use Rattle.sa_typing.specs.Rows.{rows}
use Rattle.sa_typing.specs.Types.{well_types}
use Rattle.sa_typing.proofs.types.well_types.Given as goal

abbrev pub invariant-loop-number : goal.invariant-loop-number
invariant-loop-number l = well_types (rows l.view) 0 l.view.types.now ≡ well_types (rows l.view) l.number (drop l.number l.view.types.now)
