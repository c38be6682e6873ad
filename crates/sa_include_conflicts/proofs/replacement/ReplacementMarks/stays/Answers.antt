use Rattle.sa_include_conflicts.proofs.Replacements.{brought_stays}
use Rattle.sa_include_conflicts.proofs.replacement.ReplacementMarks.stays.Goals as goal

pub returns-then-place-features : goal.returns-then-place-features
returns-then-place-features c =
    brought_stays c.args.features.now c.args.conflicts.now c.args.place c.in_ok-feature.feature.now c.in_ok-groups.groups c.args.self.now
    c.keeps_brought.result c.requires c.in_ok-feature.ensures c.in_ok-groups.ensures c.keeps_brought.ensures c.if-place-features.true
