use Rattle.std.proofs.Common.{arith, refl}
use Rattle.sa_include_conflicts.proofs.Grouping.{grouped_all}
use Rattle.sa_include_conflicts.proofs.conflicts.group_features.Goals as goal

pub returns : goal.returns
returns c =
    grouped_all c.args.features.now c.loop-place.grouping c.loop-place.place c.loop-place.of.items (record { of = c.loop-place.of; count = c.len-count.result })
    c.loop-place.invariant (omega arith) refl
