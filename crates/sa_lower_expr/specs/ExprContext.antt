-- The context of an expression, and what it is lowered to.
use Rattle.std.specs.Prelude.{◌≡◌, ◌<◌, ⊤, is_some, length}
use Rattle.sa_typed.specs.declared.expr.TypedExpr.{TypedExpr}
use Rattle.sa_cfg_builder.specs.Contexts.{context_of}
use Rattle.sa_lower_expr.specs.declared.context.ExprContext.{ExprContext}
use Rattle.sa_lower_expr.specs.declared.lowered.LoweredExpr.{LoweredExpr}
use Rattle.sa_lower_expr.specs.Typed.{Gives}
use Rattle.sa_typing.specs.declared.expr_type.ResolvedCallee.{ResolvedCallee}
use Rattle.sa_typing.specs.declared.expr_type.ResolvedCallee.TheVariants as reach
use Rattle.sa_typing.specs.declared.context.TypingContext.{TypingContext}
use Rattle.sa_typing.specs.Calls.{result_type}
use Rattle.sa_typing.specs.ExprType.{is_value, result_of}
use Rattle.sa_typing.specs.Contexts.{Env, env}
use Rattle.sa_typing.specs.Rows.{Rows}

abbrev pub env_of : ExprContext → Env
env_of a = env a.scope.now

abbrev pub expr_context : ExprContext → TypingContext
expr_context a = context_of a.inside.now

-- a lowered expression gives what its type says, in a variable where that is a value
pub record IsLowered (a : ExprContext) (e : TypedExpr) (p : LoweredExpr) : Type 0 where
  pub given : Gives (env_of a) (expr_context a) e p.given
  pub var : is_some p.var ≡ is_value p.given

-- what a call gives, in a variable where that is a value
pub record IsResult (w : Rows) (r : ResolvedCallee) (p : LoweredExpr) : Type 0 where
  pub given : p.given ≡ result_of (result_type w r)
  pub var : is_some p.var ≡ is_value p.given

-- a signature that a call resolves to is one of the program
abbrev pub IsThere : Rows → ResolvedCallee → Type 0
IsThere w (reach.Signature k) = k < length w.signatures
IsThere w _ = ⊤
