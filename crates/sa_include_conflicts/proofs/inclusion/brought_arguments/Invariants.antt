use Rattle.std.proofs.Common.{◌≡◌, map, take}
use Rattle.sa_subst.specs.Table.{put_in}
use Rattle.sa_include_conflicts.specs.IncludedFeatures.{inherited_argument}
use Rattle.sa_include_conflicts.proofs.inclusion.brought_arguments.Given as goal

abbrev pub invariant-loop-arg : goal.invariant-loop-arg
invariant-loop-arg l = l.copies ≡ map (inherited_argument (put_in l.by)) (take l.arg-index l.args)
