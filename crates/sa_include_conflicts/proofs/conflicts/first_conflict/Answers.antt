use Rattle.std.proofs.Common.{arith}
use Rattle.sa_include_conflicts.proofs.FirstConflict.{no_conflict, passed_over, taken_too}
use Rattle.sa_include_conflicts.proofs.conflicts.first_conflict.Goals as goal

-- a feature that doesn't stay is passed over
pub loop-place-preserved-then-not-is_set : goal.loop-place-preserved-then-not-is_set
loop-place-preserved-then-not-is_set c =
    passed_over c.args.conflicts.now c.args.stays.now c.args.from c.loop-place.place c.loop-place.marks c.is_set.result
    c.loop-place.invariant c.is_set.ensures c.if-not-is_set.true

-- one that stays, and conflicts with none before it, is taken too
pub loop-place-preserved : goal.loop-place-preserved
loop-place-preserved c =
    taken_too c.args.conflicts.now c.args.stays.now c.args.from c.loop-place.place c.loop-place.marks c.in_ok-groups.groups
    c.is_set.result c.has.result c.loop-place.invariant c.is_set.ensures c.if-not-is_set.false c.in_ok-groups.ensures c.has.ensures
    c.add.new.self c.if-has.false c.in_ok-add.ensures (omega arith)

pub returns : goal.returns
returns c =
    no_conflict c.args.conflicts.now c.args.stays.now c.args.from c.loop-place.place c.args.to c.loop-place.marks
    c.loop-place.invariant (omega arith)
