-- The parameters and result of a target of a class.
use Rattle.std.specs.Prelude.{ℕ, zero, suc, Bool, false, ◌==◌, if◌then◌else◌, length, slice_get, Option, Some, None}
use Rattle.std.specs.Prelude.{is_some, option_map, option_and_then}
use Rattle.std.specs.Option.{option_map_or}
use Rattle.sa_ast.specs.declared.ty.Mode.TheVariants as mode
use Rattle.sa_prelude.specs.declared.feature.BuiltinFeature.{BuiltinFeature}
use Rattle.sa_typed.specs.declared.feature.TypedFeature.{TypedFeature}
use Rattle.sa_typed.specs.declared.feature.Target.{Target}
use Rattle.sa_typed.specs.declared.feature.Target.TheVariants as target
use Rattle.sa_typing.specs.declared.expr_type.ParamType.{ParamType}
use Rattle.sa_typing.specs.Rows.{Rows, attribute, is_immutable}
use Rattle.sa_typing.specs.Builtins.{arity_of, first_type, is_of, result_type, second_type}

-- the count, where the test is true
abbrev pub count_if : ℕ → Bool → Option ℕ
count_if count test = if test then Some count else None

-- how many parameters a feature has, where it is one of the class
abbrev pub feature_arity : TypedFeature → ℕ → Option ℕ
feature_arity f class = count_if (length f.modes) (f.class == class)

abbrev pub shared_type : Rows → ℕ → Option ℕ
shared_type w k = option_map (λ s. s.ty) (slice_get w.shareds k)

-- a parameter of a feature: its mode, and the type of its variable
abbrev pub feature_parameter : TypedFeature → ℕ → Option ParamType
feature_parameter f place =
    option_and_then (λ mode. option_map (λ ty. record { mode = mode; ty = ty }) (slice_get f.vars place)) (slice_get f.modes place)

abbrev pub in_parameter : Option ℕ → Option ParamType
in_parameter (Some ty) = Some (record { mode = mode.In; ty = ty })
in_parameter None = None

abbrev pub only_parameter : Option ℕ → ℕ → Option ParamType
only_parameter ty zero = in_parameter ty
only_parameter ty _ = None

abbrev pub builtin_parameter : Rows → ℕ → BuiltinFeature → ℕ → Option ParamType
builtin_parameter w class feature zero = in_parameter (first_type w feature)
builtin_parameter w class feature (suc zero) = in_parameter (second_type w class feature)
builtin_parameter w class feature _ = None

-- The writer of an attribute gives a changed copy of an immutable value, and nothing for an object.
abbrev pub set_result : Rows → ℕ → Option ℕ
set_result w class = if is_immutable w class then Some class else None

module _ (w : Rows) where
  -- how many parameters a target has, where it is one of the class
  abbrev pub target_arity : ℕ → Target → Option ℕ
  target_arity class (target.Feature k) = option_and_then (λ f. feature_arity f class) (slice_get w.features k)
  target_arity class (target.Builtin b) = count_if (arity_of b) (is_of w class b)
  target_arity class (target.Get a) = count_if 0 (is_some (attribute w class a))
  target_arity class (target.Set a) = count_if 1 (is_some (attribute w class a))
  target_arity class (target.GetShared k) = count_if 0 (is_some (shared_type w k))
  target_arity class (target.SetShared k) = count_if 1 (is_some (shared_type w k))

  abbrev pub target_parameter : ℕ → Target → ℕ → Option ParamType
  target_parameter class (target.Feature k) place = option_and_then (λ f. feature_parameter f place) (slice_get w.features k)
  target_parameter class (target.Builtin b) place = builtin_parameter w class b place
  target_parameter class (target.Set a) place = only_parameter (attribute w class a) place
  target_parameter class (target.SetShared k) place = only_parameter (shared_type w k) place
  target_parameter class _ place = None

  -- the type of its result, if it has one
  abbrev pub target_result : ℕ → Target → Option ℕ
  target_result class (target.Feature k) = option_and_then (λ f. f.result) (slice_get w.features k)
  target_result class (target.Builtin b) = result_type w class b
  target_result class (target.Get a) = attribute w class a
  target_result class (target.Set a) = set_result w class
  target_result class (target.GetShared k) = shared_type w k
  target_result class (target.SetShared k) = None

  abbrev pub is_target_iter : Target → Bool
  is_target_iter (target.Feature k) = option_map_or (λ f. f.iter) (slice_get w.features k) false
  is_target_iter _ = false
