use Rattle.std.proofs.Common.{◌≡◌, drop}
use Rattle.sa_typing.specs.CallTypes.{characters_in}
use Rattle.sa_typing.proofs.call_type.characters_of.Given as goal

abbrev pub invariant-loop-number : goal.invariant-loop-number
invariant-loop-number l = characters_in 0 l.types ≡ characters_in l.number (drop l.number l.types)
