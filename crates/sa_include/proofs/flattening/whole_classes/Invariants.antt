use Rattle.std.proofs.Common.{take}
use Rattle.sa_include.specs.Flattened.{AreFlattened}
use Rattle.sa_include.proofs.flattening.whole_classes.Given as goal

abbrev pub invariant-loop-class : goal.invariant-loop-class
invariant-loop-class l = AreFlattened (take l.class-index l.classes) l.whole
