use Rattle.std.proofs.Common.{◌-◌, ◌≤◌, length}
use Rattle.host_io.proofs.streams.read_full.Given as goal

-- the filled prefix is within the buffer
abbrev pub invariant-loop-filled : goal.invariant-loop-filled
invariant-loop-filled g l = l.filled ≤ length l.buffer

abbrev pub decreases-loop-filled : goal.decreases-loop-filled
decreases-loop-filled g l = length l.buffer - l.filled
