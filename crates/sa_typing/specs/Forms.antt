-- The types of the forms of expressions, by the types of their operands.
use Rattle.std.specs.Prelude.{ℕ, Bool, false, ◌&&◌, not, if◌then◌else◌, slice_get, Option, Some, None, option_map, option_and_then}
use Rattle.std.specs.Option.{option_map_or}
use Rattle.sa_ast.specs.declared.ty.Mode.{Mode}
use Rattle.sa_typed.specs.declared.feature.TypedCallee.{TypedCallee}
use Rattle.sa_typed.specs.declared.feature.Site.{Site}
use Rattle.sa_typed.specs.declared.feature.Target.{Target}
use Rattle.sa_typing.specs.declared.expr_type.ExprType.{ExprType}
use Rattle.sa_typing.specs.declared.expr_type.ExprType.TheVariants.{Of, BoxedOf}
use Rattle.sa_typing.specs.declared.expr_type.ParamType.{ParamType}
use Rattle.sa_typing.specs.declared.expr_type.ResolvedCallee.{ResolvedCallee}
use Rattle.sa_typing.specs.declared.context.TypingContext.{TypingContext}
use Rattle.sa_typing.specs.Rows.{Rows, element_of, has_array, has_objects, is_immutable, is_type, call_type_at}
use Rattle.sa_typing.specs.ExprType.{agree, is_assignable, is_just, is_plain, is_value, result_of}
use Rattle.sa_typing.specs.Builtins.{bool_type, int_type}
use Rattle.sa_typing.specs.Targets.{is_target_iter, target_arity, target_parameter, target_result}
use Rattle.sa_typing.specs.Calls.{is_iter, reached, result_type}
use Rattle.sa_typing.specs.Binds.{is_bindable, is_bound_alike}
use Rattle.sa_typing.specs.Passing.{takes_value, takes_variable}
use Rattle.sa_typing.specs.Contexts.{Env, is_in_loop}

-- a value of the type, where the test is true
abbrev pub plain_if : ℕ → Bool → Option ExprType
plain_if ty test = if test then Some (Of ty) else None

-- ---- forms without children

abbrev pub type_of_void : Rows → ℕ → Option ExprType
type_of_void w ty = plain_if ty (is_type w ty)

abbrev pub type_of_variable : Env → ℕ → Option ExprType
type_of_variable f var = option_map (λ ty. Of ty) (slice_get f.vars var)

-- in a branch of a protect
abbrev pub type_of_exception : TypingContext → Option ExprType
type_of_exception at = option_map (λ ty. Of ty) at.branch

-- ---- objects

abbrev pub type_of_test : ExprType → Option ExprType
type_of_test of = plain_if bool_type (is_value of)

abbrev pub type_of_object : Rows → ℕ → Option ExprType
type_of_object w ty = plain_if ty (has_objects w ty && not (has_array w ty))

-- by the type of the length
abbrev pub type_of_array : Rows → ℕ → ExprType → Option ExprType
type_of_array w ty size = plain_if ty (is_plain int_type size && (has_objects w ty && has_array w ty))

abbrev pub elements_type : Rows → ℕ → Option ℕ
elements_type w ty = if has_objects w ty && has_array w ty then element_of w ty else None

-- ---- calls

-- the callee of a call, where it is an iter, or where it isn't
abbrev pub callee_of_call : Rows → TypedCallee → ExprType → Bool → Option ResolvedCallee
callee_of_call w called on iter = option_and_then (λ r. if agree (is_iter w r) iter then Some r else None) (reached w called on)

-- what a site of the innermost loop calls
abbrev pub called_in : TypingContext → Site → Option TypedCallee
called_in at s = if is_in_loop s.owner at then Some s.called else None

abbrev pub site_called : Env → TypingContext → ℕ → Option TypedCallee
site_called f at site = option_and_then (called_in at) (slice_get f.sites site)

-- the type of a call, where its arguments fit
abbrev pub result_if : Rows → ResolvedCallee → Bool → Option ExprType
result_if w r fits = if fits then Some (result_of (result_type w r)) else None

-- a parameter takes an expression of this type
abbrev pub value_fits : Rows → Option ParamType → Mode → Option ExprType → Bool
value_fits w (Some p) mode (Some given) = takes_value w p mode given
value_fits w _ mode _ = false

-- a parameter takes a variable of this type
abbrev pub type_fits : Rows → Option ParamType → Mode → Option ℕ → Bool
type_fits w (Some p) mode (Some ty) = takes_variable w p mode ty
type_fits w _ mode _ = false

abbrev pub variable_fits : Env → Option ParamType → Mode → ℕ → Bool
variable_fits f p mode var = type_fits f.rows p mode (slice_get f.vars var)

-- ---- binds

-- a bound type is that of the callee, but for its parameters
abbrev pub has_bound_type : Rows → ℕ → ResolvedCallee → Bool
has_bound_type w ty r = option_map_or (λ shape. is_bound_alike w shape r) (call_type_at w.bound ty) false

abbrev pub callee_of_bind : Rows → TypedCallee → ExprType → ℕ → Option ResolvedCallee
callee_of_bind w called on ty =
    option_and_then (λ r. if is_bindable called && has_bound_type w ty r then Some r else None) (reached w called on)

-- ---- operators

-- a parameter takes a value by its own mode
abbrev pub takes_first : Rows → Option ParamType → ExprType → Bool
takes_first w p given = option_map_or (λ param. takes_value w param param.mode given) p false

-- a target of the class is a routine that takes one argument, of this type, and gives a BOOL
abbrev pub is_comparison : Rows → ℕ → Target → ExprType → Bool
is_comparison w class target given =
    is_just 1 (target_arity w class target)
    && (not (is_target_iter w target)
    && (takes_first w (target_parameter w class target 0) given && is_just bool_type (target_result w class target)))

-- it is called on the second of two operands, with the first as its argument
abbrev pub type_of_reversed : Rows → Target → ExprType → ExprType → Option ExprType
type_of_reversed w target first (Of class) = plain_if bool_type (is_comparison w class target first)
type_of_reversed w target first _ = None

abbrev pub type_of_connective : ExprType → ExprType → Option ExprType
type_of_connective first second = plain_if bool_type (is_plain bool_type first && is_plain bool_type second)

abbrev pub type_of_boxed : Rows → ℕ → ExprType → Option ExprType
type_of_boxed w ty of = if is_plain ty of && is_immutable w ty then Some (BoxedOf ty) else None

-- ---- what is expected of an expression

abbrev pub is_assignable_type : Rows → ℕ → Option ExprType → Bool
is_assignable_type w ty given = option_map_or (λ g. is_assignable w g ty) given false

abbrev pub is_test : Option ExprType → Bool
is_test given = option_map_or (is_plain bool_type) given false
