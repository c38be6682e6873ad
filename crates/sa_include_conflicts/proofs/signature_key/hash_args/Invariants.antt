use Rattle.std.proofs.Common.{◌≡◌, drop}
use Rattle.std.specs.Prelude.{flat_map, fold}
use Rattle.sa_include_conflicts.specs.SignatureKeys.{argument_writes}
use Rattle.sa_include_conflicts.proofs.signature_key.hash_args.Given as goal

abbrev pub invariant-loop-arg : goal.invariant-loop-arg
invariant-loop-arg g l =
    fold g.H.Hasher.write l.initial.state (flat_map argument_writes l.args) ≡ fold g.H.Hasher.write l.state (flat_map argument_writes (drop l.arg-index l.args))
