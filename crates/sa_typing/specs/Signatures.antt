-- Which signatures of abstract types have their implementations: one for each concrete subtype.
use Rattle.std.specs.Prelude.{◌≡◌, ℕ, ◌+◌, Bool, true, false, ◌&&◌, not, ◌==◌, List, [], ◌∷◌, length, count_by, Option, Some, None}
use Rattle.std.specs.Option.{option_map_or}
use Rattle.sa_ast.specs.declared.ty.Mode.{Mode}
use Rattle.sa_ast.specs.declared.ty.Mode.TheVariants as mode
use Rattle.sa_ast.specs.TypeEquality.{same_mode}
use Rattle.sa_typed.specs.declared.program.TypedImplementation.{TypedImplementation}
use Rattle.sa_typed.specs.declared.program.TypedSignature.{TypedSignature}
use Rattle.sa_typed.specs.declared.program.TypeDef.{TypeDef}
use Rattle.sa_typing.specs.declared.expr_type.ParamType.{ParamType}
use Rattle.sa_typing.specs.declared.call_type.CallType.{CallType}
use Rattle.sa_typing.specs.declared.signatures.Lowers.{Lowers}
use Rattle.sa_typing.specs.Rows.{Rows, has_supertype, is_supertype, is_abstract, is_abstract_kind, is_strict_supertype, call_type_at}
use Rattle.sa_typing.specs.ExprType.{agree, is_just}
use Rattle.sa_typing.specs.Targets.{is_target_iter, target_arity, target_parameter, target_result}
use Rattle.sa_typing.specs.Features.{is_concrete_class}
use Rattle.sa_typing.specs.Types.{is_after}

-- ---- how many concrete subtypes a type has

-- a type is a concrete subtype of another
abbrev pub is_lower : ℕ → TypeDef → Bool
is_lower ty t = not (is_abstract_kind t.kind) && has_supertype ty t

abbrev pub lower_count : Rows → ℕ → ℕ
lower_count w ty = count_by (is_lower ty) w.types

-- the type has this many
abbrev pub IsCount : Rows → Lowers → Type 0
IsCount w l = l.count ≡ lower_count w l.ty

-- ---- implementations

-- they come in ascending order of the numbers of their types
abbrev pub rise_from : Option ℕ → List TypedImplementation → Bool
rise_from last [] = true
rise_from last (i ∷ more) = is_after last i.ty && rise_from (Some i.ty) more

module _ (w : Rows) where
  -- The type of a parameter conforms to that of the signature, by its mode.
  abbrev pub type_conforms : Mode → ℕ → ℕ → Bool
  type_conforms mode.In ty own = is_supertype w own ty
  type_conforms mode.Once ty own = is_supertype w own ty
  type_conforms mode.Out ty own = is_supertype w ty own
  type_conforms mode.Inout ty own = own == ty

  abbrev pub param_conforms : ParamType → Option ParamType → Bool
  param_conforms p own = option_map_or (λ o. same_mode o.mode p.mode && type_conforms p.mode p.ty o.ty) own false

  -- parameters from an index on
  abbrev pub params_conform : TypedImplementation → ℕ → List ParamType → Bool
  params_conform i place [] = true
  params_conform i place (p ∷ more) = param_conforms p (target_parameter w i.ty i.target place) && params_conform i (place + 1) more

  abbrev pub result_conforms : Option ℕ → Option ℕ → Bool
  result_conforms (Some ty) (Some own) = is_supertype w ty own
  result_conforms None None = true
  result_conforms _ _ = false

  -- the implementation by a concrete class of a signature of an abstract supertype takes what the signature takes, and gives what it gives
  abbrev pub is_implementation : CallType → ℕ → TypedImplementation → Bool
  is_implementation shape upper i =
      is_concrete_class w i.ty
      && (is_strict_supertype w upper i.ty
      && (agree (is_target_iter w i.target) shape.iter
      && (is_just (length shape.params) (target_arity w i.ty i.target)
      && (params_conform i 0 shape.params
      && result_conforms shape.result (target_result w i.ty i.target)))))

  abbrev pub all_implement : CallType → ℕ → List TypedImplementation → Bool
  all_implement shape upper [] = true
  all_implement shape upper (i ∷ more) = is_implementation shape upper i && all_implement shape upper more

  abbrev pub are_implementations : Option CallType → TypedSignature → Bool
  are_implementations shape s = option_map_or (λ sh. all_implement sh s.ty s.impls) shape false

  -- a signature of an abstract type has as many implementations as the type has concrete subtypes, each by one of them
  abbrev pub well_signature : ℕ → TypedSignature → Bool
  well_signature k s =
      is_abstract w s.ty
      && (lower_count w s.ty == length s.impls
      && (rise_from None s.impls && are_implementations (call_type_at w.shapes k) s))

  -- signatures from a number on
  abbrev pub well_signatures : ℕ → List TypedSignature → Bool
  well_signatures k [] = true
  well_signatures k (s ∷ more) = well_signature k s && well_signatures (k + 1) more
