use Rattle.std.proofs.Common.{◌≤◌, length}
use Rattle.sa_typing.specs.CallTypes.{HasNumbers}
use Rattle.sa_typing.proofs.call_type.Numbers.make.Given as goal

abbrev pub invariant-types : goal.invariant-types
invariant-types l = record {
  within : l.at ≤ length l.types;
  numbers : HasNumbers l.by_type l.types l.at;
}

abbrev pub decreases-types : goal.decreases-types
decreases-types l = l.at
