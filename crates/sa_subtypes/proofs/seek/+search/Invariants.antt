use Rattle.std.proofs.Common.{◌≡◌, drop}
use Rattle.sa_ast.specs.Types.{all_bare, all_bare_args}
use Rattle.sa_subtypes.specs.Questions.{seeking, walk_all, walk_args}
use Rattle.sa_subtypes.proofs.seek.+search.Given as goal

abbrev pub invariant-search_types-loop-ty : goal.invariant-search_types-loop-ty
invariant-search_types-loop-ty l =
    walk_all (seeking l.wanted) (all_bare l.types) (drop l.initial.next l.nodes) ≡ walk_all (seeking l.wanted) (all_bare (drop l.ty-index l.types)) (drop l.next l.nodes)

abbrev pub invariant-search_args-loop-arg : goal.invariant-search_args-loop-arg
invariant-search_args-loop-arg l =
    walk_args (seeking l.wanted) (all_bare_args l.args) (drop l.initial.next l.nodes) ≡ walk_args (seeking l.wanted) (all_bare_args (drop l.arg-index l.args)) (drop l.next l.nodes)
