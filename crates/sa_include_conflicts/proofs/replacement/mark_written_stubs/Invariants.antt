use Rattle.std.proofs.Common.{filter, take}
use Rattle.sa_include_conflicts.specs.Staying.{AreMarked, is_written_stub}
use Rattle.sa_include_conflicts.proofs.replacement.mark_written_stubs.Given as goal

abbrev pub invariant-loop-place : goal.invariant-loop-place
invariant-loop-place l =
    AreMarked l.features l.conflicts
    (filter (is_written_stub l.features.immutable l.features.inherited.now l.features.written.now) (take l.place l.features.written.now)) l.marks
