use Rattle.std.proofs.Common.{◌≡◌, drop, flat_map}
use Rattle.sa_include_names.specs.Headers.{misused_class}
use Rattle.sa_include_names.specs.Tables.{first}
use Rattle.sa_include_names.proofs.header.first_misused.Given as goal

abbrev pub invariant-loop-class : goal.invariant-loop-class
invariant-loop-class l = first (flat_map (misused_class l.classes l.arrays) l.classes) ≡ first (flat_map (misused_class l.classes l.arrays) (drop l.class-index l.classes))
