use Rattle.std.proofs.Common.{◌≡◌, drop}
use Rattle.sa_ast.specs.Types.{all_bare, all_bare_args}
use Rattle.sa_subtypes.specs.Questions.{comparing, value_in, walk_all, walk_args}
use Rattle.sa_subtypes.proofs.question.Question.+fit.Given as goal

abbrev pub invariant-types_fit-loop-ty : goal.invariant-types_fit-loop-ty
invariant-types_fit-loop-ty l =
    walk_all (comparing (value_in l.self)) (all_bare l.types) (drop l.initial.next l.nodes) ≡ walk_all (comparing (value_in l.self)) (all_bare (drop l.ty-index l.types)) (drop l.next l.nodes)

abbrev pub invariant-args_fit-loop-arg : goal.invariant-args_fit-loop-arg
invariant-args_fit-loop-arg l =
    walk_args (comparing (value_in l.self)) (all_bare_args l.args) (drop l.initial.next l.nodes) ≡ walk_args (comparing (value_in l.self)) (all_bare_args (drop l.arg-index l.args)) (drop l.next l.nodes)
