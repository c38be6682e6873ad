use Rattle.std.proofs.Common.{◌≡◌, drop}
use Rattle.sa_structure.specs.Stands.{is_in}
use Rattle.sa_structure.proofs.verifier.is_in.Given as goal

abbrev pub invariant-loop-other : goal.invariant-loop-other
invariant-loop-other l = is_in l.list l.block ≡ is_in (drop l.other-index l.list) l.block
