use Rattle.std.proofs.Common.{filter, take}
use Rattle.sa_include_conflicts.specs.Staying.{AreMarked, is_inherited_body}
use Rattle.sa_include_conflicts.proofs.replacement.mark_brought_bodies.Given as goal

abbrev pub invariant-loop-place : goal.invariant-loop-place
invariant-loop-place l =
    AreMarked l.features l.conflicts (filter (is_inherited_body l.features.immutable l.features.written.now) (take l.place l.features.inherited.now)) l.marks
