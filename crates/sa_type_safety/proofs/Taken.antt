-- The parameters of each target as a list.
use Rattle.std.proofs.Common.{◌≡◌, ℕ, zero, suc, ◌≤◌, Bool, true, false, ◌==◌, List, [], ◌∷◌, length, Option, Some, None, slice_get, option_map, option_and_then, nat_le, is_some, refl, sym, ap, ◌∙◌, true≢false, arith}
use Rattle.std.proofs.lemmas.Bool.{leb-true}
use Rattle.std.proofs.lemmas.Option.{none-some, same_Some}
use Rattle.sa_ast.specs.declared.ty.Mode.{Mode}
use Rattle.sa_ast.specs.declared.ty.Mode.TheVariants as mode
use Rattle.sa_prelude.specs.declared.feature.BuiltinFeature.{BuiltinFeature}
use Rattle.sa_prelude.specs.declared.feature.BuiltinFeature.TheVariants.{ArefAset, StrOf}
use Rattle.sa_typed.specs.declared.feature.TypedFeature.{TypedFeature}
use Rattle.sa_typed.specs.declared.feature.Target.{Target}
use Rattle.sa_typed.specs.declared.feature.Target.TheVariants as target
use Rattle.sa_typing.specs.declared.expr_type.ParamType.{ParamType}
use Rattle.sa_typing.specs.Rows.{Rows, attribute, element_of, has_array}
use Rattle.sa_typing.specs.Builtins.{arity_of, first_type, int_type, is_characters, is_of, second_type}
use Rattle.sa_typing.specs.Features.{are_types, has_well_header, has_types, is_concrete_class, is_type_or_none}
use Rattle.sa_typing.specs.Targets.{builtin_parameter, count_if, feature_arity, feature_parameter, in_parameter, only_parameter, shared_type, target_arity, target_parameter}
use Rattle.sa_typing.specs.WellTyped.{AreWellTyped}
use Rattle.sa_type_safety.specs.Typing.{Takes}
use Rattle.sa_type_safety.proofs.Facts.{first_of, second_of, feature_at}
use Rattle.sa_type_safety.proofs.ExprType.{some_is}
use Rattle.sa_type_safety.proofs.Wide.{then_some}

-- ---- options and counts that are there

counted : (count : ℕ) (test : Bool) → is_some (count_if count test) ≡ true → test ≡ true
counted count true h = refl
counted count false h = absurd (true≢false (sym h))

pub count_is : (count n : ℕ) (test : Bool) → count_if count test ≡ Some n → (test ≡ true) × (count ≡ n)
count_is count n true e = (refl, same_Some count n e)
count_is count n false e = absurd (none-some n e)

-- ---- the parameters of features

module _ (w : Rows) where
  -- a list that has these parameters by their indices
  record Listed (count : ℕ) (at : ℕ → Option ParamType) : Type 0 where
    pub params : List ParamType
    pub counts : length params ≡ count
    pub each : (place : ℕ) → at place ≡ slice_get params place

  abbrev parameter_in : List Mode → List ℕ → ℕ → Option ParamType
  parameter_in modes vars place = option_and_then (λ (m : Mode). option_map (λ (ty : ℕ). record { mode = m; ty = ty }) (slice_get vars place)) (slice_get modes place)

  one_more : (m : Mode) (modes : List Mode) (ty : ℕ) (vars : List ℕ) (params : List ParamType) → ((place : ℕ) → parameter_in modes vars place ≡ slice_get params place) → (place : ℕ) → parameter_in (m ∷ modes) (ty ∷ vars) place ≡ slice_get (record { mode = m; ty = ty } ∷ params) place
  one_more m modes ty vars params each zero = refl
  one_more m modes ty vars params each (suc place) = each place

  feature_listed : (modes : List Mode) (vars : List ℕ) → length modes ≤ length vars → Listed (length modes) (parameter_in modes vars)
  feature_listed [] vars le = record { params = []; counts = refl; each = λ place. refl }
  feature_listed (m ∷ modes) [] le = absurd (omega (arith, le))
  feature_listed (m ∷ modes) (ty ∷ vars) le =
      let rest = feature_listed modes vars (omega (arith, le)) in
      record { params = record { mode = m; ty = ty } ∷ rest.params; counts = ap suc rest.counts; each = one_more m modes ty vars rest.params rest.each }

  -- ---- those of the other targets

  abbrev fits : ℕ → Option ℕ → Option ℕ → Bool
  fits zero None None = true
  fits (suc zero) (Some first) None = true
  fits (suc (suc zero)) (Some first) (Some second) = true
  fits _ first second = false

  abbrev placed : Option ℕ → Option ℕ → ℕ → Option ParamType
  placed first second zero = in_parameter first
  placed first second (suc zero) = in_parameter second
  placed first second _ = None

  none_placed : (place : ℕ) → placed None None place ≡ None
  none_placed zero = refl
  none_placed (suc zero) = refl
  none_placed (suc (suc place)) = refl

  one_placed : (first : ℕ) (place : ℕ) → placed (Some first) None place ≡ slice_get (record { mode = mode.In; ty = first } ∷ []) place
  one_placed first zero = refl
  one_placed first (suc zero) = refl
  one_placed first (suc (suc place)) = refl

  two_placed : (first second : ℕ) (place : ℕ) → placed (Some first) (Some second) place ≡ slice_get (record { mode = mode.In; ty = first } ∷ record { mode = mode.In; ty = second } ∷ []) place
  two_placed first second zero = refl
  two_placed first second (suc zero) = refl
  two_placed first second (suc (suc place)) = refl

  listed : (count : ℕ) (first second : Option ℕ) → fits count first second ≡ true → Listed count (placed first second)
  listed zero None None h = record { params = []; counts = refl; each = none_placed }
  listed (suc zero) (Some first) None h = record { params = record { mode = mode.In; ty = first } ∷ []; counts = refl; each = one_placed first }
  listed (suc (suc zero)) (Some first) (Some second) h =
      record { params = record { mode = mode.In; ty = first } ∷ record { mode = mode.In; ty = second } ∷ []; counts = refl; each = two_placed first second }
  listed _ first second h = absurd (true≢false (sym h))

  characters_fit : (o : Option ℕ) → is_characters w o ≡ true → fits 2 o (Some int_type) ≡ true
  characters_fit None h = absurd (true≢false (sym h))
  characters_fit (Some ty) h = refl

  element_fits : (o : Option ℕ) → is_some o ≡ true → fits 2 (Some int_type) o ≡ true
  element_fits None h = absurd (true≢false (sym h))
  element_fits (Some ty) h = refl

  builtin_fits : (class : ℕ) (b : BuiltinFeature) → is_of w class b ≡ true → fits (arity_of b) (first_type w b) (second_type w class b) ≡ true
  builtin_fits class StrOf h = characters_fit w.characters h
  builtin_fits class ArefAset h = element_fits (element_of w class) (second_of (has_array w class) (is_some (element_of w class)) h)
  builtin_fits class _ h = refl

  builtin_placed : (class : ℕ) (b : BuiltinFeature) (place : ℕ) → builtin_parameter w class b place ≡ placed (first_type w b) (second_type w class b) place
  builtin_placed class b zero = refl
  builtin_placed class b (suc zero) = refl
  builtin_placed class b (suc (suc place)) = refl

  only_placed : (ty : Option ℕ) (place : ℕ) → only_parameter ty place ≡ placed ty None place
  only_placed ty zero = refl
  only_placed ty (suc zero) = refl
  only_placed ty (suc (suc place)) = refl

  only_fits : (ty : Option ℕ) → is_some ty ≡ true → fits 1 ty None ≡ true
  only_fits None h = absurd (true≢false (sym h))
  only_fits (Some ty) h = refl

  takes_listed : (class : ℕ) (t : Target) (count : ℕ) (at : ℕ → Option ParamType) → target_arity w class t ≡ Some count → ((place : ℕ) → target_parameter w class t place ≡ at place) → Listed count at → (params : List ParamType) × Takes w class t params
  takes_listed class t count at arity each l = (l.params, record { arity = arity ∙ ap (λ n. Some n) (sym l.counts); each = λ place. each place ∙ l.each place })

  counted_is : (count : ℕ) (test : Bool) → is_some (count_if count test) ≡ true → count_if count test ≡ Some count
  counted_is count test h = ap (count_if count) (counted count test h)

module _ {w : Rows} {number : ℕ} (well : AreWellTyped w number) where
  modes_fit : (k : ℕ) (f : TypedFeature) → slice_get w.features k ≡ Some f → length f.modes ≤ length f.vars
  modes_fit k f e =
      let typed = first_of (has_types w f) _ (first_of (has_well_header w f) _ (feature_at well k f e)) in
      leb-true (length f.modes) (length f.vars) (second_of (is_type_or_none w f.result) (nat_le (length f.modes) (length f.vars))
      (second_of (are_types w f.vars) _ (second_of (is_concrete_class w f.class) _ typed)))

  feature_taken : (class k : ℕ) → is_some (target_arity w class (target.Feature k)) ≡ true → (params : List ParamType) × Takes w class (target.Feature k) params
  feature_taken class k h =
      let arity = some_is (target_arity w class (target.Feature k)) h in
      let f = then_some (λ (f : TypedFeature). feature_arity f class) (slice_get w.features k) arity.0 arity.1 in
      takes_listed w class (target.Feature k) (length f.0.modes) (parameter_in w f.0.modes f.0.vars)
      (arity.1 ∙ ap (λ n. Some n) (sym (count_is (length f.0.modes) arity.0 (f.0.class == class) f.2).1))
      (λ place. ap (option_and_then (λ (g : TypedFeature). feature_parameter g place)) f.1)
      (feature_listed w f.0.modes f.0.vars (modes_fit k f.0 f.1))

  pub taken : (class : ℕ) (t : Target) → is_some (target_arity w class t) ≡ true → (params : List ParamType) × Takes w class t params
  taken class (target.Feature k) h = feature_taken class k h
  taken class (target.Builtin b) h =
      takes_listed w class (target.Builtin b) (arity_of b) (placed w (first_type w b) (second_type w class b)) (counted_is w (arity_of b) (is_of w class b) h) (builtin_placed w class b)
      (listed w (arity_of b) (first_type w b) (second_type w class b) (builtin_fits w class b (counted (arity_of b) (is_of w class b) h)))
  taken class (target.Get a) h =
      takes_listed w class (target.Get a) 0 (placed w None None) (counted_is w 0 (is_some (attribute w class a)) h) (λ place. sym (none_placed w place)) (listed w 0 None None refl)
  taken class (target.Set a) h =
      takes_listed w class (target.Set a) 1 (placed w (attribute w class a) None) (counted_is w 1 (is_some (attribute w class a)) h) (only_placed w (attribute w class a))
      (listed w 1 (attribute w class a) None (only_fits w (attribute w class a) (counted 1 (is_some (attribute w class a)) h)))
  taken class (target.GetShared k) h =
      takes_listed w class (target.GetShared k) 0 (placed w None None) (counted_is w 0 (is_some (shared_type w k)) h) (λ place. sym (none_placed w place)) (listed w 0 None None refl)
  taken class (target.SetShared k) h =
      takes_listed w class (target.SetShared k) 1 (placed w (shared_type w k) None) (counted_is w 1 (is_some (shared_type w k)) h) (only_placed w (shared_type w k))
      (listed w 1 (shared_type w k) None (only_fits w (shared_type w k) (counted 1 (is_some (shared_type w k)) h)))
