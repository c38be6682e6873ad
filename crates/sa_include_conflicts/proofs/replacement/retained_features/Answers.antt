use Rattle.sa_include_conflicts.proofs.Replacements.{stays_more}
use Rattle.sa_include_conflicts.proofs.replacement.retained_features.Goals as goal

pub loop-place-preserved : goal.loop-place-preserved
loop-place-preserved c =
    stays_more c.args.features.now c.args.conflicts.now c.loop-place.stays.items c.push.new.self.items c.loop-place.place c.in_ok-stays.field-0
    c.loop-place.invariant c.in_ok-stays.ensures c.in_ok-push.ensures.items
