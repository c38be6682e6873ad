use Rattle.std.proofs.Common.{take}
use Rattle.std.specs.List.{All}
use Rattle.sa_subst.specs.Table.{put_in}
use Rattle.sa_include.specs.Included.{IsInherited}
use Rattle.sa_include.proofs.include_trial.try_features.Given as goal

abbrev pub invariant-loop-feature : goal.invariant-loop-feature
invariant-loop-feature l =
    All (IsInherited l.bringing.changes.now (put_in l.bringing.by) l.bringing.immutable l.known.shapes.keys) (take l.feature-index l.features)
