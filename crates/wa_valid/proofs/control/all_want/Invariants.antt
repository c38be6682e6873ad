use Rattle.std.proofs.Common.{◌≡◌, take}
use Rattle.std.specs.Prelude.{All, Some, reverse, slice_get}
use Rattle.wa_valid.proofs.control.all_want.Given as goal

abbrev pub invariant-loop-label : goal.invariant-loop-label
invariant-loop-label l = All (λ label. slice_get (reverse l.labels) label ≡ Some l.wanted) (take l.label-index l.table)
