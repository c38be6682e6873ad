use Rattle.std.proofs.Common.{◌≡◌, take}
use Rattle.sa_ast.proofs.ty.+copy.Given as goal

abbrev pub invariant-copy_args-loop-arg : goal.invariant-copy_args-loop-arg
invariant-copy_args-loop-arg l = l.copies ≡ take l.arg-index l.args

abbrev pub invariant-copy_params-loop-ty : goal.invariant-copy_params-loop-ty
invariant-copy_params-loop-ty l = l.copies ≡ take l.ty-index l.params
