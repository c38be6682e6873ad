-- What a well-typed expression gives, in its context.
use Rattle.std.specs.Prelude.{◌≡◌, ⊤, Bool, true, false, IsTrue, is_some, Some}
use Rattle.std.specs.Option.{option_map_or}
use Rattle.sa_typed.specs.declared.expr.TypedArg.{TypedArg}
use Rattle.sa_typed.specs.declared.expr.TypedArg.TheVariants as arg
use Rattle.sa_typed.specs.declared.expr.TypedExpr.{TypedExpr}
use Rattle.sa_typed.specs.Copy.{expr_of}
use Rattle.sa_typing.specs.declared.expr_type.ExprType.{ExprType}
use Rattle.sa_typing.specs.declared.expr_type.ExprType.TheVariants.{Of}
use Rattle.sa_typing.specs.declared.context.TypingContext.{TypingContext}
use Rattle.sa_typing.specs.Expressions.{type_of_expr}
use Rattle.sa_typing.specs.ExprType.{is_value}
use Rattle.sa_typing.specs.Contexts.{Env}

abbrev pub is_unboxed : ExprType → Bool
is_unboxed (Of ty) = true
is_unboxed _ = false

-- a value that isn't boxed
abbrev pub IsPlain : ExprType → Type 0
IsPlain given = IsTrue (is_unboxed given)

module _ (f : Env) (at : TypingContext) where
  -- an expression is well typed, and gives this
  unfoldable pub Gives : TypedExpr → ExprType → Type 0
  Gives e given = type_of_expr f at (expr_of e) ≡ Some given

  -- an expression gives a value
  unfoldable pub gives_value : TypedExpr → Bool
  gives_value e = option_map_or is_value (type_of_expr f at (expr_of e)) false

  -- an expression is well typed
  unfoldable pub IsTyped : TypedExpr → Type 0
  IsTyped e = IsTrue (is_some (type_of_expr f at (expr_of e)))

  -- it is, and gives a value
  unfoldable pub HasValue : TypedExpr → Type 0
  HasValue e = IsTrue (gives_value e)

  -- an expression that is passed gives a value
  abbrev pub IsArgument : TypedArg → Type 0
  IsArgument (arg.Value mode e) = HasValue e
  IsArgument _ = ⊤
