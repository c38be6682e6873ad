-- Whether arguments and elements fit, from an index on.
use Rattle.std.proofs.Common.{◌≡◌, ℕ, ◌+◌, ◌<◌, ◌&&◌, cond, List, length, get_or, drop, ap, add-one, drop-cons}
use Rattle.std.proofs.Math.Seq.{drop-length}
use Rattle.sa_typed.specs.declared.expr.TypedArg.{TypedArg}
use Rattle.sa_typed.specs.declared.expr.TypedExpr.{TypedExpr}
use Rattle.sa_typed.specs.Copy.{arg_of, args_of, expr_of, exprs_of}
use Rattle.sa_typing.specs.declared.expr_type.ResolvedCallee.{ResolvedCallee}
use Rattle.sa_typing.specs.declared.context.TypingContext.{TypingContext}
use Rattle.sa_typing.proofs.Listed.{drop-step}
use Rattle.sa_typing.specs.Calls.{parameter}
use Rattle.sa_typing.specs.Forms.{is_assignable_type}
use Rattle.sa_typing.specs.Contexts.{Env}
use Rattle.sa_typing.specs.Expressions.{are_assignable, arg_fits, bound_arg_fits, args_fit, is_open, bound_args_fit, type_of_expr}

module _ (f : Env) (at : TypingContext) where
  pub args_fit-drop : (r : ResolvedCallee) (xs : List TypedArg) (i : ℕ) (x : TypedArg) → i < length xs → x ≡ get_or xs i x → args_fit f at r i (args_of (drop i xs)) ≡ (arg_fits f at (parameter f.rows r i) (arg_of x) && args_fit f at r (i + 1) (args_of (drop (i + 1) xs)))
  args_fit-drop r xs i x h e = ap (λ (ys : List TypedArg). args_fit f at r i (args_of ys)) (drop-step xs i x h e)

  pub kept_fit-drop : (r bound : ResolvedCallee) (xs : List TypedArg) (i next : ℕ) (x : TypedArg) → i < length xs → x ≡ get_or xs i x → bound_args_fit f at r bound i next (args_of (drop i xs)) ≡ (bound_arg_fits f at (parameter f.rows r i) (parameter f.rows bound next) (arg_of x) && bound_args_fit f at r bound (i + 1) (cond (is_open (arg_of x)) (next + 1) next) (args_of (drop (i + 1) xs)))
  kept_fit-drop r bound xs i next x h e = ap (λ (ys : List TypedArg). bound_args_fit f at r bound i next (args_of ys)) (drop-step xs i x h e)

  pub all_go-drop : (ty : ℕ) (xs : List TypedExpr) (i : ℕ) (x : TypedExpr) → i < length xs → x ≡ get_or xs i x → are_assignable f at ty (exprs_of (drop i xs)) ≡ (is_assignable_type f.rows ty (type_of_expr f at (expr_of x)) && are_assignable f at ty (exprs_of (drop (i + 1) xs)))
  all_go-drop ty xs i x h e = rw (add-one, drop-cons xs i x, ← e)

pub ruleset arguments = (args_fit-drop, kept_fit-drop, all_go-drop, drop-length)
