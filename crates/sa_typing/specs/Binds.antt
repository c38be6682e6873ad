-- What a bind may call, and which bound type its value has.
use Rattle.std.specs.Prelude.{Bool, true, false, ◌&&◌, Option, Some}
use Rattle.sa_typed.specs.declared.feature.TypedCallee.{TypedCallee}
use Rattle.sa_typed.specs.declared.feature.TypedCallee.TheVariants as called
use Rattle.sa_typing.specs.declared.expr_type.ParamType.{ParamType}
use Rattle.sa_typing.specs.declared.expr_type.ResolvedCallee.{ResolvedCallee}
use Rattle.sa_typing.specs.declared.call_type.CallType.{CallType}
use Rattle.sa_typing.specs.Rows.{Rows}
use Rattle.sa_typing.specs.ExprType.{agree, same_param, same_type}
use Rattle.sa_typing.specs.Calls.{is_iter, result_type}

-- the call of a bound value isn't bound
abbrev pub is_bindable : TypedCallee → Bool
is_bindable called.Bound = false
is_bindable _ = true

-- a bound type is one of an iter exactly where the callee is an iter, and has the same result
abbrev pub is_bound_alike : Rows → CallType → ResolvedCallee → Bool
is_bound_alike w shape r = agree shape.iter (is_iter w r) && same_type shape.result (result_type w r)

-- an argument that is left open is the parameter of the bound type
abbrev pub is_open_alike : Option ParamType → Option ParamType → Bool
is_open_alike (Some p) (Some next) = same_param p next
is_open_alike _ _ = false
