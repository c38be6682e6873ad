use Rattle.std.proofs.Common.{filter, take}
use Rattle.sa_include_conflicts.specs.Staying.{AreMarked, is_body}
use Rattle.sa_include_conflicts.proofs.replacement.mark_written_bodies.Given as goal

abbrev pub invariant-loop-place : goal.invariant-loop-place
invariant-loop-place l = AreMarked l.features l.conflicts (filter is_body (take l.place l.features.written.now)) l.marks
