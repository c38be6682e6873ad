use Rattle.std.proofs.Common.{◌≡◌, ◌++◌, take}
use Rattle.sa_contracts.specs.Assertions.{asserts_of}
use Rattle.sa_contracts.proofs.asserts.add_asserts.Given as goal

abbrev pub invariant-loop-condition : goal.invariant-loop-condition
invariant-loop-condition l = l.list ≡ l.initial.list ++ asserts_of (take l.condition-index l.conditions)
