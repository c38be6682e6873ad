use Rattle.std.proofs.Common.{ap, ◌∙◌, ◌++◌}
use Rattle.std.specs.Prelude.{max, option_map}
use Rattle.sa_unify.specs.Terms.{free}
use Rattle.sa_unify.proofs.Joins.{joined-at}
use Rattle.sa_unify.proofs.composition.joined.Goals as goal

pub returns : goal.returns
returns c =
    joined-at c.later_of-more.result c.args.below.now c.args.ends.now c.args.begins.now c.args.above.now c.add_all.new.out.items c.in_ok-one.one.items c.in_ok-other.other.items (option_map (λ v. v.items) c.in_ok-unified.unified)
    (c.later_of-more.ensures ∙ ap (λ k. max k c.in_ok-upper.upper) c.in_ok-lower.ensures ∙ ap (max (free c.args.below.now)) c.in_ok-upper.ensures)
    (c.in_ok-add_all.ensures ∙ ap (λ l. l ++ c.as_slice.result.now) c.in_ok-kept.ensures ∙ ap (λ l. c.args.below.now ++ l) (c.as_slice.ensures.value ∙ c.in_ok-later.ensures))
    c.in_ok-one.ensures c.in_ok-other.ensures c.in_ok-unified.ensures
