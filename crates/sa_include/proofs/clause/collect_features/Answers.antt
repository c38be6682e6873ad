use Rattle.sa_include.proofs.Refusing.{more_gathered}
use Rattle.sa_include.proofs.clause.collect_features.Goals as goal

-- the refusal of the next clause counts if there is none yet
pub loop-place-preserved : goal.loop-place-preserved
loop-place-preserved c =
    more_gathered c.args.class.now.includes c.as_slice-include-items.result.now c.loop-place.place c.include-item.result
    c.loop-place.inherited.features.items c.bring_clause.new.inherited.features.items c.loop-place.refusal c.in_ok-wrong.wrong c.or-refusal.result
    c.as_slice-include-items.ensures c.loop-place.invariant c.loop-place-test.true c.include-item.is c.in_ok-wrong.ensures c.or-refusal.ensures
