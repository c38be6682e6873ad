use Rattle.std.proofs.Common.{◌≡◌, ◌++◌, drop}
use Rattle.std.specs.Prelude.{flat_map}
use Rattle.sa_typed.specs.PositionList.{shared_positions}
use Rattle.sa_typed.proofs.position_list.add_shareds.Given as goal

abbrev pub invariant-loop-shared : goal.invariant-loop-shared
invariant-loop-shared l =
    l.found ++ flat_map shared_positions (drop l.shared-index l.shareds) ≡ l.initial.found ++ flat_map shared_positions l.shareds
