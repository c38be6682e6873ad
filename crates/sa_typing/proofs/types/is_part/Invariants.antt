use Rattle.std.proofs.Common.{◌≡◌, ◌≤◌, drop, length}
use Rattle.sa_typing.specs.Types.{is_part}
use Rattle.sa_typing.proofs.types.is_part.Given as goal

abbrev pub invariant-loop-item : goal.invariant-loop-item
invariant-loop-item l = record {
  within : l.found ≤ length l.part;
  rest : is_part l.part l.whole ≡ is_part (drop l.found l.part) (drop l.item-index l.whole);
}
