use Rattle.std.proofs.Common.{◌≡◌, ◌≤◌, drop}
use Rattle.sa_typed.specs.Copy.{args_of, exprs_of}
use Rattle.sa_typing.specs.Expressions.{are_assignable, args_fit, bound_args_fit}
use Rattle.sa_typing.specs.Contexts.{env}
use Rattle.sa_typing.proofs.expr.+type_of.Given as goal

abbrev pub invariant-args_fit-loop-place : goal.invariant-args_fit-loop-place
invariant-args_fit-loop-place l =
    args_fit (env l.scope) l.at l.reached 0 (args_of l.args) ≡ args_fit (env l.scope) l.at l.reached l.place (args_of (drop l.place l.args))

abbrev pub invariant-bound_args_fit-loop-place : goal.invariant-bound_args_fit-loop-place
invariant-bound_args_fit-loop-place l = record {
  few : l.next ≤ l.place;
  rest : bound_args_fit (env l.scope) l.at l.reached l.bound 0 0 (args_of l.args) ≡ bound_args_fit (env l.scope) l.at l.reached l.bound l.place l.next (args_of (drop l.place l.args));
}

abbrev pub invariant-are_assignable-loop-e : goal.invariant-are_assignable-loop-e
invariant-are_assignable-loop-e l = are_assignable (env l.scope) l.at l.ty (exprs_of l.list) ≡ are_assignable (env l.scope) l.at l.ty (exprs_of (drop l.e-index l.list))
