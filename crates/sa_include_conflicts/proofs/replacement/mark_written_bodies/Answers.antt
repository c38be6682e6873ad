use Rattle.std.proofs.Common.{◌+◌, length}
use Rattle.sa_include_conflicts.specs.Staying.{is_body}
use Rattle.sa_include_conflicts.proofs.Replacements.{marked_more, written_at}
use Rattle.sa_include_conflicts.proofs.replacement.mark_written_bodies.Goals as goal

-- the next written feature is marked too if it is no stub
pub loop-place-preserved : goal.loop-place-preserved
loop-place-preserved c =
    let features = c.args.features.now in
    let i = c.loop-place.place in
    let f = c.feature-item.result in
    marked_more features c.args.conflicts.now is_body features.written.now i (length features.inherited.now + i) f c.in_ok-groups.groups c.is_body.result
    c.loop-place.marks c.add_where.new.self c.requires c.loop-place-test.true c.feature-item.is
    (written_at features c.args.conflicts.now i f c.loop-place-test.true c.feature-item.is) c.in_ok-groups.ensures c.is_body.ensures
    c.loop-place.invariant c.in_ok-add_where.ensures
