use Rattle.std.proofs.Common.{◌&&◌, ◌||◌, ◌+◌, ◌∙◌, ap, length, not}
use Rattle.sa_include_conflicts.specs.Sharing.{has_marked}
use Rattle.sa_include_conflicts.specs.Staying.{is_written_stub, meets_any, written_bodies}
use Rattle.sa_include_conflicts.specs.Stub.{is_stub_part}
use Rattle.sa_include_conflicts.proofs.Replacements.{marked_more, written_at}
use Rattle.sa_include_conflicts.proofs.replacement.mark_written_stubs.Goals as goal

-- the next written feature is marked too if it is a stub and conflicts with none that stays and is none
pub loop-place-preserved : goal.loop-place-preserved
loop-place-preserved c =
    let features = c.args.features.now in
    let i = c.loop-place.place in
    let f = c.feature-item.result in
    let groups = c.in_ok-groups.groups in
    let at = written_at features c.args.conflicts.now i f c.loop-place-test.true c.feature-item.is in
    let place = length features.inherited.now + i in
    marked_more features c.args.conflicts.now (is_written_stub features.immutable features.inherited.now features.written.now) features.written.now i place f
    groups c.is_staying_stub.result c.loop-place.marks c.add_where.new.self c.requires.grouped c.loop-place-test.true c.feature-item.is at c.in_ok-groups.ensures
    (c.is_staying_stub.ensures
    ∙ ap (λ b. is_stub_part f.part && not (b || has_marked groups c.args.inherited.now)) (c.requires.written.exactly place f groups at c.in_ok-groups.ensures)
    ∙ ap (λ b. is_stub_part f.part && not (meets_any features.immutable (written_bodies features.immutable features.written.now) f || b)) (c.requires.inherited.exactly place f groups at c.in_ok-groups.ensures))
    c.loop-place.invariant c.in_ok-add_where.ensures
