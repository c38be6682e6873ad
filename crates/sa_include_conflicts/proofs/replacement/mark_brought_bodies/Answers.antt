use Rattle.std.proofs.Common.{◌&&◌, ◌∙◌, ap, not}
use Rattle.sa_include_conflicts.specs.Staying.{is_body, is_inherited_body}
use Rattle.sa_include_conflicts.proofs.Replacements.{brought_at, marked_more}
use Rattle.sa_include_conflicts.proofs.replacement.mark_brought_bodies.Goals as goal

-- the next included feature is marked too if it is no stub and conflicts with no written one that is none
pub loop-place-preserved : goal.loop-place-preserved
loop-place-preserved c =
    let features = c.args.features.now in
    let i = c.loop-place.place in
    let f = c.feature-item.result in
    let at = brought_at features c.args.conflicts.now i f c.loop-place-test.true c.feature-item.is in
    marked_more features c.args.conflicts.now (is_inherited_body features.immutable features.written.now) features.inherited.now i i f c.in_ok-groups.groups
    c.is_staying_body.result c.loop-place.marks c.add_where.new.self c.requires.grouped c.loop-place-test.true c.feature-item.is at c.in_ok-groups.ensures
    (c.is_staying_body.ensures ∙ ap (λ b. is_body f && not b) (c.requires.written.exactly i f c.in_ok-groups.groups at c.in_ok-groups.ensures))
    c.loop-place.invariant c.in_ok-add_where.ensures
