use Rattle.std.proofs.Common.{◌≡◌, drop}
use Rattle.sa_ast.specs.Types.{all_bare_args}
use Rattle.sa_typing.specs.CallTypes.{parameters_of}
use Rattle.sa_typing.proofs.Numbered.{with_front}
use Rattle.sa_typing.proofs.call_type.Numbers.parameters.Given as goal

abbrev pub invariant-loop-arg : goal.invariant-loop-arg
invariant-loop-arg l =
    with_front l.params (parameters_of l.self.types.now (all_bare_args (drop l.arg-index l.args)))
    ≡ parameters_of l.self.types.now (all_bare_args l.args)
