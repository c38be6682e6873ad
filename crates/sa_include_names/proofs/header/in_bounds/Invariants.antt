use Rattle.std.proofs.Common.{◌≡◌, drop, flat_map}
use Rattle.sa_include_names.specs.Headers.{misused_option}
use Rattle.sa_include_names.specs.Tables.{first, occurs_in}
use Rattle.sa_include_names.proofs.header.in_bounds.Given as goal

abbrev pub invariant-loop-param : goal.invariant-loop-param
invariant-loop-param l = first (flat_map (λ p. misused_option (occurs_in l.scope) p.bound) l.params) ≡ first (flat_map (λ p. misused_option (occurs_in l.scope) p.bound) (drop l.param-index l.params))
