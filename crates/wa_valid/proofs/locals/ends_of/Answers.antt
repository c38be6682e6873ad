use Rattle.std.proofs.Common.{List, sym, ap, subst, ◌∙◌, ◌≤◌}
use Rattle.std.specs.Prelude.{All}
use Rattle.std.specs.List.Sorted.{IsNonDecreasingBy}
use Rattle.wa_valid.specs.declared.locals.LocalRunEnd.{LocalRunEnd}
use Rattle.wa_valid.specs.Ends.{types_of_ends}
use Rattle.wa_valid.proofs.Ends.{last_end, last_end-push, types-more, sorted-more, below-more}
use Rattle.wa_valid.proofs.locals.ends_of.Goals as goal

pub loop-run-preserved : goal.loop-run-preserved
loop-run-preserved c =
    let new = c.in_ok-push.ensures.items in
    let sum = c.in_ok-end.ensures.ok in
    let types = types-more _ _ _ c.loop-run.ends.items c.loop-run.end c.in_ok-end.end c.loop-run-test.true sum c.loop-run.invariant.last c.loop-run.invariant.types in
    let sorted = sorted-more _ _ _ c.loop-run.ends.items c.loop-run.end c.in_ok-end.end c.loop-run-test.true sum c.loop-run.invariant.sorted c.loop-run.invariant.below in
    let below = below-more _ _ _ c.loop-run.ends.items c.loop-run.end c.in_ok-end.end c.loop-run-test.true sum c.loop-run.invariant.below in
    record {
      last = sym (ap (last_end 0) new ∙ last_end-push 0 c.loop-run.ends.items _);
      types = ap (types_of_ends 0) new ∙ types;
      sorted = subst (λ (ends : List LocalRunEnd). IsNonDecreasingBy (λ run. run.end) ends) (sym new) sorted;
      below = subst (λ (ends : List LocalRunEnd). All (λ run. run.end ≤ c.in_ok-end.end) ends) (sym new) below;
    }
