use Rattle.std.proofs.Common.{◌≡◌, ◌++◌, drop}
use Rattle.sa_typed.specs.Copy.{args_of, exprs_of}
use Rattle.sa_typing.specs.Contexts.{env}
use Rattle.sa_typing.specs.Sites.{args_sites, exprs_sites}
use Rattle.sa_typing.proofs.sites.+add_expr.Given as goal

abbrev pub invariant-add_exprs-loop-e : goal.invariant-add_exprs-loop-e
invariant-add_exprs-loop-e l =
    l.found.items ++ exprs_sites (env l.scope) l.at (exprs_of (drop l.e-index l.list)) ≡ l.initial.found.items ++ exprs_sites (env l.scope) l.at (exprs_of l.list)

abbrev pub invariant-add_args-loop-arg : goal.invariant-add_args-loop-arg
invariant-add_args-loop-arg l =
    l.found.items ++ args_sites (env l.scope) l.at (args_of (drop l.arg-index l.list)) ≡ l.initial.found.items ++ args_sites (env l.scope) l.at (args_of l.list)
