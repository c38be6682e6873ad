use Rattle.std.proofs.Common.{◌+◌, ◌≤◌, length, take}
use Rattle.std.specs.Prelude.{All}
use Rattle.wa_syntax.specs.Runs.{memory_size, offset_of}
use Rattle.wa_flatten.proofs.segments.data_fits.Given as goal

abbrev pub invariant-loop-segment : goal.invariant-loop-segment
invariant-loop-segment l = All (λ segment. offset_of l.m segment.offset + length segment.bytes ≤ memory_size l.m) (take l.segment-index l.m.segments)
