use Rattle.std.proofs.Common.{◌-◌, length}
use Rattle.wa_decode.specs.Places.{ReachesIn}
use Rattle.wa_decode.proofs.Sections.{Over}
use Rattle.wa_decode.proofs.section.customs.Given as goal

abbrev pub invariant-loop-at : goal.invariant-loop-at
invariant-loop-at l = record {
  reaches : ReachesIn l.bytes l.fn.at l.at;
  row : Over l.bytes l.fn.at l.at;
}

abbrev pub decreases-loop-at : goal.decreases-loop-at
decreases-loop-at l = length l.bytes - l.at
