use Rattle.std.proofs.Common.{◌≡◌, ◌-◌, ◌<◌, ◌≤◌, length, vec_len}
use Rattle.sa_read.proofs.ReadLemmas.{HasFront}
use Rattle.sa_read.proofs.read.read_pieces.Given as goal

abbrev pub invariant-loop-bytes : goal.invariant-loop-bytes
invariant-loop-bytes g l = record {
  front : HasFront (g.S.ReadFiles.files l.store) l.name l.bytes.items;
  within : vec_len l.bytes ≤ l.limit;
  room : 0 < length l.piece;
  files : g.S.ReadFiles.files l.store ≡ g.S.ReadFiles.files l.fn.store;
  count : g.S.ReadFiles.faults l.fn.store ≤ g.S.ReadFiles.faults l.store;
}

abbrev pub decreases-loop-bytes : goal.decreases-loop-bytes
decreases-loop-bytes g l = l.limit - vec_len l.bytes
