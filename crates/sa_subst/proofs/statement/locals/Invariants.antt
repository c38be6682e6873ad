use Rattle.std.proofs.Common.{◌≡◌, take}
use Rattle.sa_subst.proofs.statement.locals.Given as goal

abbrev pub invariant-loop-one : goal.invariant-loop-one
invariant-loop-one l = l.copies ≡ take l.one-index l.list
