use Rattle.std.proofs.Common.{◌≡◌, drop}
use Rattle.sa_structure.specs.Stands.{each, is_come_to}
use Rattle.sa_structure.proofs.verifier.dispatch_stands.Given as goal

abbrev pub invariant-loop-block : goal.invariant-loop-block
invariant-loop-block l =
    each (is_come_to l.seen l.following) l.entries ≡ each (is_come_to l.seen l.following) (drop l.block-index l.entries)
