use Rattle.std.proofs.Common.{◌≡◌, drop, flat_map}
use Rattle.sa_include_names.specs.Headers.{misused, misused_arg}
use Rattle.sa_include_names.specs.Tables.{first, occurs_in}
use Rattle.sa_include_names.proofs.header.+types.Given as goal

abbrev pub invariant-in_args-loop-arg : goal.invariant-in_args-loop-arg
invariant-in_args-loop-arg l = first (flat_map (misused_arg (occurs_in l.scope)) l.args) ≡ first (flat_map (misused_arg (occurs_in l.scope)) (drop l.arg-index l.args))

abbrev pub invariant-in_types-loop-ty : goal.invariant-in_types-loop-ty
invariant-in_types-loop-ty l = first (flat_map (misused (occurs_in l.scope)) l.types) ≡ first (flat_map (misused (occurs_in l.scope)) (drop l.ty-index l.types))
