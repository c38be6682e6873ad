use Rattle.std.proofs.Common.{◌≡◌, map, take}
use Rattle.sa_unify.specs.Numbers.{row_of}
use Rattle.sa_unify.proofs.names.rows_of.Given as goal

abbrev pub invariant-loop-class : goal.invariant-loop-class
invariant-loop-class l = l.rows.items ≡ map row_of (take l.class-index l.classes)
