use Rattle.std.proofs.Common.{◌≡◌, drop}
use Rattle.sa_structure.specs.Stands.{each, is_numbered}
use Rattle.sa_structure.proofs.numbering.have_numbers.Given as goal

abbrev pub invariant-loop-block : goal.invariant-loop-block
invariant-loop-block l = each (is_numbered l.numbers) l.entries ≡ each (is_numbered l.numbers) (drop l.block-index l.entries)
