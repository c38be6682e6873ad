use Rattle.std.proofs.Common.{◌≤◌, ◌-◌, length, take}
use Rattle.sa_trace.specs.TraceRecords.{AreTraceRecords}
use Rattle.sa_trace.proofs.trace_parser.frames_of.Given as goal

-- the records so far are the bytes so far
abbrev pub invariant-loop-frame : goal.invariant-loop-frame
invariant-loop-frame l = record {
  within : l.at ≤ length l.bytes;
  frames : AreTraceRecords l.positions l.sources (take l.at l.bytes) l.frames.items;
}

abbrev pub decreases-loop-frame : goal.decreases-loop-frame
decreases-loop-frame l = length l.bytes - l.at
