use Rattle.std.proofs.Common.{◌≡◌, drop}
use Rattle.std.specs.Prelude.{fold}
use Rattle.sa_ast.specs.TypeHash.{types_writes, args_writes}
use Rattle.sa_ast.specs.Types.{all_bare, all_bare_args}
use Rattle.sa_ast.proofs.ty.+hash.Given as goal

abbrev pub invariant-hash_args-loop-arg : goal.invariant-hash_args-loop-arg
invariant-hash_args-loop-arg g l =
    fold g.H.Hasher.write l.initial.state (args_writes (all_bare_args l.args)) ≡ fold g.H.Hasher.write l.state (args_writes (all_bare_args (drop l.arg-index l.args)))

abbrev pub invariant-hash_params-loop-ty : goal.invariant-hash_params-loop-ty
invariant-hash_params-loop-ty g l =
    fold g.H.Hasher.write l.initial.state (types_writes (all_bare l.params)) ≡ fold g.H.Hasher.write l.state (types_writes (all_bare (drop l.ty-index l.params)))
