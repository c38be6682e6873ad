use Rattle.std.proofs.Common.{◌≡◌, drop, flat_map}
use Rattle.sa_include_names.specs.Tables.{first, misused_above_in}
use Rattle.sa_include_names.proofs.header.in_all_above.Given as goal

abbrev pub invariant-loop-ty : goal.invariant-loop-ty
invariant-loop-ty l = first (flat_map (misused_above_in l.scope) l.above) ≡ first (flat_map (misused_above_in l.scope) (drop l.ty-index l.above))
