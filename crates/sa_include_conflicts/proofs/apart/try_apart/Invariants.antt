use Rattle.std.proofs.Common.{take}
use Rattle.sa_include_conflicts.specs.KnownSignatures.{AreApart}
use Rattle.sa_include_conflicts.proofs.apart.try_apart.Given as goal

abbrev pub invariant-loop-feature : goal.invariant-loop-feature
invariant-loop-feature l = AreApart l.immutable (take l.feature-index l.features) l.known.shapes.keys
