use Rattle.std.proofs.Common.{◌≡◌, drop, flat_map}
use Rattle.sa_include_names.specs.Tables.{first, misused_include_in}
use Rattle.sa_include_names.proofs.header.in_includes.Given as goal

abbrev pub invariant-loop-include : goal.invariant-loop-include
invariant-loop-include l = first (flat_map (λ i. misused_include_in l.scope i.ty) l.includes) ≡ first (flat_map (λ i. misused_include_in l.scope i.ty) (drop l.include-index l.includes))
