-- The callee of a call, by the type of its receiver, and the callee's parameters and result.
use Rattle.std.specs.Prelude.{ℕ, Bool, false, ◌&&◌, if◌then◌else◌, length, slice_get, Option, Some, None}
use Rattle.std.specs.Prelude.{is_some, option_map, option_and_then}
use Rattle.std.specs.Option.{option_map_or}
use Rattle.sa_typed.specs.declared.feature.TypedCallee.{TypedCallee}
use Rattle.sa_typed.specs.declared.feature.TypedCallee.TheVariants as called
use Rattle.sa_typing.specs.declared.expr_type.ExprType.{ExprType}
use Rattle.sa_typing.specs.declared.expr_type.ExprType.TheVariants.{Of}
use Rattle.sa_typing.specs.declared.expr_type.ParamType.{ParamType}
use Rattle.sa_typing.specs.declared.expr_type.ResolvedCallee.{ResolvedCallee}
use Rattle.sa_typing.specs.declared.expr_type.ResolvedCallee.TheVariants as reach
use Rattle.sa_typing.specs.Rows.{Rows, call_type_at}
use Rattle.sa_typing.specs.ExprType.{is_plain}
use Rattle.sa_typing.specs.Targets.{is_target_iter, target_arity, target_parameter, target_result}

module _ (w : Rows) where
  -- a signature, where the receiver is of its abstract type
  abbrev pub signature_of : ℕ → ExprType → Option ResolvedCallee
  signature_of k on = option_and_then (λ s. if is_plain s.ty on then Some (reach.Signature k) else None) (slice_get w.signatures k)

  -- the bound value that the receiver is
  abbrev pub bound_by : ExprType → Option ResolvedCallee
  bound_by (Of ty) = if is_some (call_type_at w.bound ty) then Some (reach.Bound ty) else None
  bound_by _ = None

  -- the callee of a call on this receiver, where the receiver is of the type on which it is called
  abbrev pub reached : TypedCallee → ExprType → Option ResolvedCallee
  reached (called.Static target class) on =
      if is_plain class on && is_some (target_arity w class target) then Some (reach.Target target class) else None
  reached (called.Dispatch k) on = signature_of k on
  reached called.Bound on = bound_by on

  abbrev pub arity : ResolvedCallee → Option ℕ
  arity (reach.Target target class) = target_arity w class target
  arity (reach.Signature k) = option_map (λ s. length s.params) (call_type_at w.shapes k)
  arity (reach.Bound ty) = option_map (λ s. length s.params) (call_type_at w.bound ty)

  abbrev pub parameter : ResolvedCallee → ℕ → Option ParamType
  parameter (reach.Target target class) place = target_parameter w class target place
  parameter (reach.Signature k) place = option_and_then (λ s. slice_get s.params place) (call_type_at w.shapes k)
  parameter (reach.Bound ty) place = option_and_then (λ s. slice_get s.params place) (call_type_at w.bound ty)

  -- the type of its result, if it has one
  abbrev pub result_type : ResolvedCallee → Option ℕ
  result_type (reach.Target target class) = target_result w class target
  result_type (reach.Signature k) = option_and_then (λ s. s.result) (call_type_at w.shapes k)
  result_type (reach.Bound ty) = option_and_then (λ s. s.result) (call_type_at w.bound ty)

  abbrev pub is_iter : ResolvedCallee → Bool
  is_iter (reach.Target target class) = is_target_iter w target
  is_iter (reach.Signature k) = option_map_or (λ s. s.iter) (call_type_at w.shapes k) false
  is_iter (reach.Bound ty) = option_map_or (λ s. s.iter) (call_type_at w.bound ty) false
