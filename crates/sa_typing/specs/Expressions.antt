-- The type of an expression, where it is well typed.
use Rattle.std.specs.Prelude.{ℕ, ◌+◌, Bool, true, false, ◌&&◌, if◌then◌else◌, Option, Some, option_and_then}
use Rattle.sa_typed.specs.Tree as tree
use Rattle.sa_typed.specs.Tree.{Expr, VoidValue, SelfRef, Var, Exception, IsVoid, New, NewArray, Array, Call, IterCall, Bind}
use Rattle.sa_typed.specs.Tree.{Reversed, And, Or, Box, Exprs, no_exprs, expr, Arg, Variable, Open, Args, no_args, arg}
use Rattle.sa_typing.specs.declared.expr_type.ExprType.{ExprType}
use Rattle.sa_typing.specs.declared.expr_type.ExprType.TheVariants.{Of}
use Rattle.sa_typing.specs.declared.expr_type.ParamType.{ParamType}
use Rattle.sa_typing.specs.declared.expr_type.ResolvedCallee.{ResolvedCallee}
use Rattle.sa_typing.specs.declared.expr_type.ResolvedCallee.TheVariants as reach
use Rattle.sa_typing.specs.declared.context.TypingContext.{TypingContext}
use Rattle.sa_typing.specs.ExprType.{is_just}
use Rattle.sa_typing.specs.Builtins.{bool_type, char_type, int_type, str_type}
use Rattle.sa_typing.specs.Calls.{arity, parameter}
use Rattle.sa_typing.specs.Binds.{is_open_alike}
use Rattle.sa_typing.specs.Forms.{type_of_array, callee_of_bind, callee_of_call, type_of_connective, elements_type, type_of_exception, type_of_object}
use Rattle.sa_typing.specs.Forms.{plain_if, result_if, site_called, type_of_reversed, type_of_test, value_fits, is_assignable_type, variable_fits}
use Rattle.sa_typing.specs.Forms.{type_of_variable}
use Rattle.sa_typing.specs.Forms.{type_of_void, type_of_boxed}
use Rattle.sa_typing.specs.Contexts.{Env}

-- an argument of a bind is left open
abbrev pub is_open : Arg → Bool
is_open Open = true
is_open _ = false

module _ (f : Env) where
  abbrev mutual
    -- the type of an expression, where it is well typed in its context
    pub type_of_expr : TypingContext → Expr → Option ExprType
    type_of_expr at (tree.Int z) = Some (Of int_type)
    type_of_expr at (tree.Truth b) = Some (Of bool_type)
    type_of_expr at (tree.Char byte) = Some (Of char_type)
    type_of_expr at (tree.Text bytes) = Some (Of str_type)
    type_of_expr at (VoidValue ty) = type_of_void f.rows ty
    type_of_expr at SelfRef = Some (Of f.class)
    type_of_expr at (Var var) = type_of_variable f var
    type_of_expr at Exception = type_of_exception at
    type_of_expr at (IsVoid of) = option_and_then type_of_test (type_of_expr at of)
    type_of_expr at (New ty pos) = type_of_object f.rows ty
    type_of_expr at (NewArray ty size pos) = option_and_then (type_of_array f.rows ty) (type_of_expr at size)
    type_of_expr at (Array ty elements pos) =
        option_and_then (λ element. plain_if ty (are_assignable at element elements)) (elements_type f.rows ty)
    type_of_expr at (Call called on arguments pos) =
        option_and_then (λ g. option_and_then (λ r. result_if f.rows r (args_fit at r 0 arguments))
        (callee_of_call f.rows called g false)) (type_of_expr at on)
    type_of_expr at (IterCall site on arguments pos) =
        option_and_then (λ called. option_and_then (λ g. option_and_then (λ r. result_if f.rows r (args_fit at r 0 arguments))
        (callee_of_call f.rows called g true)) (type_of_expr at on)) (site_called f at site)
    type_of_expr at (Bind called on arguments ty pos) =
        option_and_then (λ g. option_and_then (λ r. plain_if ty (bound_args_fit at r (reach.Bound ty) 0 0 arguments))
        (callee_of_bind f.rows called g ty)) (type_of_expr at on)
    type_of_expr at (Reversed target first second pos) =
        option_and_then (λ a. option_and_then (λ b. type_of_reversed f.rows target a b) (type_of_expr at second)) (type_of_expr at first)
    type_of_expr at (And first second) =
        option_and_then (λ a. option_and_then (λ b. type_of_connective a b) (type_of_expr at second)) (type_of_expr at first)
    type_of_expr at (Or first second) =
        option_and_then (λ a. option_and_then (λ b. type_of_connective a b) (type_of_expr at second)) (type_of_expr at first)
    type_of_expr at (Box ty of pos) = option_and_then (type_of_boxed f.rows ty) (type_of_expr at of)

    -- the arguments of a call from an index on: each is taken by its parameter, and there are no more parameters
    pub args_fit : TypingContext → ResolvedCallee → ℕ → Args → Bool
    args_fit at r place no_args = is_just place (arity f.rows r)
    args_fit at r place (arg a more) = arg_fits at (parameter f.rows r place) a && args_fit at r (place + 1) more

    pub arg_fits : TypingContext → Option ParamType → Arg → Bool
    arg_fits at p (tree.Value mode value) = value_fits f.rows p mode (type_of_expr at value)
    arg_fits at p (Variable mode var) = variable_fits f p mode var
    arg_fits at p Open = false

    -- The arguments of a bind from an index on. Those that are left open are the parameters of the bound value, from an index on.
    pub bound_args_fit : TypingContext → ResolvedCallee → ResolvedCallee → ℕ → ℕ → Args → Bool
    bound_args_fit at r bound place next no_args = is_just place (arity f.rows r) && is_just next (arity f.rows bound)
    bound_args_fit at r bound place next (arg a more) =
        bound_arg_fits at (parameter f.rows r place) (parameter f.rows bound next) a
        && bound_args_fit at r bound (place + 1) (if is_open a then next + 1 else next) more

    pub bound_arg_fits : TypingContext → Option ParamType → Option ParamType → Arg → Bool
    bound_arg_fits at p next (tree.Value mode value) = value_fits f.rows p mode (type_of_expr at value)
    bound_arg_fits at p next (Variable mode var) = false
    bound_arg_fits at p next Open = is_open_alike p next

    -- each of these expressions is assignable to the type
    pub are_assignable : TypingContext → ℕ → Exprs → Bool
    are_assignable at ty no_exprs = true
    are_assignable at ty (expr e more) = is_assignable_type f.rows ty (type_of_expr at e) && are_assignable at ty more

  -- an expression is assignable to the type
  abbrev pub is_assignable_expr : TypingContext → ℕ → Expr → Bool
  is_assignable_expr at ty e = is_assignable_type f.rows ty (type_of_expr at e)
