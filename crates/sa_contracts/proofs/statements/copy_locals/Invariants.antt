use Rattle.std.proofs.Common.{◌≡◌, take}
use Rattle.sa_contracts.proofs.statements.copy_locals.Given as goal

abbrev pub invariant-loop-one : goal.invariant-loop-one
invariant-loop-one l = l.copies ≡ take l.one-index l.list
