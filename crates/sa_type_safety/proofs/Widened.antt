-- Which arguments of a target calls box: those whose parameters have abstract types.
use Rattle.std.proofs.Common.{◌≡◌, ℕ, zero, suc, inl, inr, Bool, true, false, ◌||◌, ◌==◌, List, [], ◌∷◌, map, length, Option, Some, None, slice_get, option_map, unwrap_or, refl, sym, ap, subst, ◌∙◌, true≢false, eqb-true}
use Rattle.std.specs.Option.{option_map_or}
use Rattle.std.proofs.lemmas.Option.{none-some, same_Some, slice_get-map}
use Rattle.sa_ast.specs.declared.ty.Mode.{Mode}
use Rattle.sa_prelude.specs.declared.feature.BuiltinFeature.{BuiltinFeature}
use Rattle.sa_prelude.specs.declared.feature.BuiltinFeature.TheVariants.{ArefAset, StrOf, SysObEq}
use Rattle.sa_typed.specs.declared.feature.TypedFeature.{TypedFeature}
use Rattle.sa_typed.specs.declared.feature.Target.{Target}
use Rattle.sa_typed.specs.declared.feature.Target.TheVariants as target
use Rattle.sa_typed.specs.declared.program.TypedProgram.{TypedProgram}
use Rattle.sa_typed.specs.declared.program.TypedShared.{TypedShared}
use Rattle.sa_typing.specs.declared.expr_type.ParamType.{ParamType}
use Rattle.sa_typing.specs.Rows.{Rows, attribute, element_of, has_array, is_abstract}
use Rattle.sa_typing.specs.Builtins.{arity_of, bool_type, char_type, first_type, int_type, is_characters, is_of, ob_type, second_type, str_type}
use Rattle.sa_typing.specs.Targets.{builtin_parameter, feature_parameter, in_parameter, only_parameter, shared_type, target_parameter}
use Rattle.sa_typing.specs.WellTyped.{rows_of, IsWellTyped}
use Rattle.sa_semantics.specs.Program as program
use Rattle.sa_semantics.specs.Program.{Feature, SharedRow, TypeRow, program_of}
use Rattle.sa_semantics.specs.Calls.{both_of, is_once, is_wide, wide_arguments, wide_builtin, wide_once}
use Rattle.sa_type_safety.specs.Typing.{Takes}
use Rattle.sa_type_safety.proofs.Facts.{first_of, second_of, one_of, program_feature, program_shared, same_abstract, same_element, same_of_type}
use Rattle.sa_type_safety.proofs.ExprType.{array_concrete, bool_is, char_is, int_is, ob_abstract, str_is}
use Rattle.sa_type_safety.proofs.Taken.{count_is}
use Rattle.sa_type_safety.proofs.Wide.{then_some, map_some}
use Rattle.sa_type_safety.proofs.ProgramFacts.{AreTheWide, AreWide}

-- ---- by indices

-- the test at an index, which is false after the end
abbrev flag_at : List Bool → ℕ → Bool
flag_at flags place = unwrap_or (slice_get flags place) false

the_wide : (w : Rows) (own : List ParamType) (flags : List Bool) → ((place : ℕ) (q : ParamType) → slice_get own place ≡ Some q → flag_at flags place ≡ is_abstract w q.ty) → AreTheWide w own flags
the_wide w [] flags h = tt
the_wide w (q ∷ own) [] h = (sym (h 0 q refl), the_wide w own [] (λ place r e. h (suc place) r e))
the_wide w (q ∷ own) (b ∷ flags) h = (h 0 q refl, the_wide w own flags (λ place r e. h (suc place) r e))

are_wide : (w : Rows) (own : List ParamType) (flags : List Bool) → ((place : ℕ) (q : ParamType) → slice_get own place ≡ Some q → flag_at flags place ≡ true → is_abstract w q.ty ≡ true) → AreWide w own flags
are_wide w [] flags h = tt
are_wide w (q ∷ own) [] h = tt
are_wide w (q ∷ own) (b ∷ flags) h = (h 0 q refl, are_wide w own flags (λ place r e. h (suc place) r e))

both_second : (first second : List Bool) (place : ℕ) → flag_at (both_of first second) place ≡ true → flag_at second place ≡ true
both_second [] second place h = absurd (true≢false (sym h))
both_second (a ∷ first) [] place h = absurd (true≢false (sym h))
both_second (a ∷ first) (b ∷ second) zero h = second_of a b h
both_second (a ∷ first) (b ∷ second) (suc place) h = both_second first second place h

-- ---- the types of parameters

in_of : (o : Option ℕ) (q : ParamType) → in_parameter o ≡ Some q → o ≡ Some q.ty
in_of None q e = absurd (none-some q e)
in_of (Some ty) q e = ap (λ (r : ParamType). Some r.ty) (same_Some _ q e)

var_of : (f : TypedFeature) (place : ℕ) (q : ParamType) → feature_parameter f place ≡ Some q → slice_get f.vars place ≡ Some q.ty
var_of f place q e =
    let first = then_some (λ (m : Mode). option_map (λ (ty : ℕ). record { mode = m; ty = ty }) (slice_get f.vars place)) (slice_get f.modes place) q e in
    let next = map_some (λ (ty : ℕ). record { mode = first.0; ty = ty }) (slice_get f.vars place) q first.2 in
    next.1 ∙ ap (λ (r : ParamType). Some r.ty) next.2

-- BOOL, INT, CHAR or STR, if there is a type
abbrev is_basic : Option ℕ → Bool
is_basic None = true
is_basic (Some ty) = ty == bool_type || (ty == int_type || (ty == char_type || ty == str_type))

module _ (core : TypedProgram) (well : IsWellTyped core) where
  basic_number : (ty : ℕ) → is_basic (Some ty) ≡ true → is_abstract (rows_of core) ty ≡ false
  basic_number ty h =
      elim (one_of (ty == bool_type) (ty == int_type || (ty == char_type || ty == str_type)) h) as (λ x. is_abstract (rows_of core) ty ≡ false) [
        | inl e ↦ ap (is_abstract (rows_of core)) (eqb-true ty bool_type e) ∙ (bool_is core well).plain.0
        | inr h ↦ elim (one_of (ty == int_type) (ty == char_type || ty == str_type) h) as (λ x. is_abstract (rows_of core) ty ≡ false) [
          | inl e ↦ ap (is_abstract (rows_of core)) (eqb-true ty int_type e) ∙ (int_is core well).plain.0
          | inr h ↦ elim (one_of (ty == char_type) (ty == str_type) h) as (λ x. is_abstract (rows_of core) ty ≡ false) [
            | inl e ↦ ap (is_abstract (rows_of core)) (eqb-true ty char_type e) ∙ (char_is core well).plain.0
            | inr e ↦ ap (is_abstract (rows_of core)) (eqb-true ty str_type e) ∙ (str_is core well).plain.0
          ]
        ]
      ]

  basic : (o : Option ℕ) (ty : ℕ) → is_basic o ≡ true → o ≡ Some ty → false ≡ is_abstract (rows_of core) ty
  basic None ty h e = absurd (none-some ty e)
  basic (Some n) ty h e = sym (subst (λ m. is_abstract (rows_of core) m ≡ false) (same_Some n ty e) (basic_number n h))

  object : (ty : ℕ) → Some ob_type ≡ Some ty → true ≡ is_abstract (rows_of core) ty
  object ty e = sym (ob_abstract core well) ∙ ap (is_abstract (rows_of core)) (same_Some ob_type ty e)

  -- ---- built-in features

  characters_flag : (o : Option ℕ) (ty : ℕ) → is_characters (rows_of core) o ≡ true → o ≡ Some ty → false ≡ is_abstract (rows_of core) ty
  characters_flag None ty h e = absurd (none-some ty e)
  characters_flag (Some n) ty h e =
      sym (subst (λ m. is_abstract (rows_of core) m ≡ false) (same_Some n ty e) (array_concrete core well n (first_of (has_array (rows_of core) n) _ h)))

  first_flag : (class : ℕ) (b : BuiltinFeature) (ty : ℕ) → is_of (rows_of core) class b ≡ true → first_type (rows_of core) b ≡ Some ty → flag_at (wide_builtin (program_of core) (Some class) b) 0 ≡ is_abstract (rows_of core) ty
  first_flag class SysObEq ty h e = object ty e
  first_flag class StrOf ty h e = characters_flag (rows_of core).characters ty h e
  first_flag class b ty h e = basic (first_type (rows_of core) b) ty refl e

  wide_type : (o : Option ℕ) (own : Option ℕ) (ty : ℕ) → o ≡ own → own ≡ Some ty → is_wide (program_of core) o ≡ is_abstract (rows_of core) ty
  wide_type o own ty same e = ap (is_wide (program_of core)) (same ∙ e) ∙ same_abstract core ty

  second_flag : (class : ℕ) (b : BuiltinFeature) (ty : ℕ) → second_type (rows_of core) class b ≡ Some ty → flag_at (wide_builtin (program_of core) (Some class) b) 1 ≡ is_abstract (rows_of core) ty
  second_flag class SysObEq ty e = object ty e
  second_flag class ArefAset ty e = wide_type (program.of_type (program_of core) (λ t. t.elem) None class) (element_of (rows_of core) class) ty (same_element core class) e
  second_flag class b ty e = basic (second_type (rows_of core) class b) ty refl e

  builtin_flag : (class : ℕ) (b : BuiltinFeature) (place : ℕ) (q : ParamType) → is_of (rows_of core) class b ≡ true → builtin_parameter (rows_of core) class b place ≡ Some q → flag_at (wide_builtin (program_of core) (Some class) b) place ≡ is_abstract (rows_of core) q.ty
  builtin_flag class b zero q h e = first_flag class b q.ty h (in_of (first_type (rows_of core) b) q e)
  builtin_flag class b (suc zero) q h e = second_flag class b q.ty (in_of (second_type (rows_of core) class b) q e)
  builtin_flag class b (suc (suc place)) q h e = absurd (none-some q e)

  -- ---- features, and writers of attributes and shareds

  var_flag : (f : TypedFeature) (place : ℕ) (q : ParamType) → feature_parameter f place ≡ Some q → flag_at (map (program.is_abstract (program_of core)) f.vars) place ≡ is_abstract (rows_of core) q.ty
  var_flag f place q e =
      ap (λ (o : Option Bool). unwrap_or o false) (slice_get-map (program.is_abstract (program_of core)) f.vars place ∙ ap (option_map (program.is_abstract (program_of core))) (var_of f place q e))
      ∙ same_abstract core q.ty

  feature_flag : (class k place : ℕ) (q : ParamType) → target_parameter (rows_of core) class (target.Feature k) place ≡ Some q → flag_at (wide_arguments (program_of core) (Some class) (target.Feature k)) place ≡ is_abstract (rows_of core) q.ty
  feature_flag class k place q e =
      let found = then_some (λ (f : TypedFeature). feature_parameter f place) (slice_get core.features k) q e in
      ap (λ (o : Option Feature). flag_at (option_map_or (λ (f : Feature). map (program.is_abstract (program_of core)) f.vars) o []) place) (program_feature core k found.0 found.1)
      ∙ var_flag found.0 place q found.2

  only_flag : (o : Option ℕ) (b : Bool) (place : ℕ) (q : ParamType) → ((ty : ℕ) → o ≡ Some ty → b ≡ is_abstract (rows_of core) ty) → only_parameter o place ≡ Some q → flag_at (b ∷ []) place ≡ is_abstract (rows_of core) q.ty
  only_flag o b zero q h e = h q.ty (in_of o q e)
  only_flag o b (suc place) q h e = absurd (none-some q e)

  shared_flag : (k ty : ℕ) → shared_type (rows_of core) k ≡ Some ty → option_map_or (λ (s : SharedRow). program.is_abstract (program_of core) s.ty) (slice_get (program_of core).shareds k) false ≡ is_abstract (rows_of core) ty
  shared_flag k ty e =
      let found = map_some (λ (s : TypedShared). s.ty) (slice_get core.shareds k) ty e in
      ap (λ (o : Option SharedRow). option_map_or (λ (s : SharedRow). program.is_abstract (program_of core) s.ty) o false) (program_shared core k found.0 found.1)
      ∙ ap (program.is_abstract (program_of core)) found.2 ∙ same_abstract core ty

  -- ---- all targets

  pub all_wide : (class : ℕ) (t : Target) (own : List ParamType) → Takes (rows_of core) class t own → AreTheWide (rows_of core) own (wide_arguments (program_of core) (Some class) t)
  all_wide class (target.Feature k) own takes =
      the_wide (rows_of core) own (wide_arguments (program_of core) (Some class) (target.Feature k)) (λ place q e. feature_flag class k place q (takes.each place ∙ e))
  all_wide class (target.Builtin b) own takes =
      the_wide (rows_of core) own (wide_builtin (program_of core) (Some class) b)
      (λ place q e. builtin_flag class b place q (count_is (arity_of b) (length own) (is_of (rows_of core) class b) takes.arity).0 (takes.each place ∙ e))
  all_wide class (target.Get a) own takes = the_wide (rows_of core) own [] (λ place q e. absurd (none-some q (takes.each place ∙ e)))
  all_wide class (target.Set a) own takes =
      the_wide (rows_of core) own (is_wide (program_of core) (program.of_type (program_of core) (λ t. slice_get t.attrs a) None class) ∷ [])
      (λ place q e. only_flag (attribute (rows_of core) class a) (is_wide (program_of core) (program.of_type (program_of core) (λ t. slice_get t.attrs a) None class)) place q
      (λ ty is. wide_type (program.of_type (program_of core) (λ t. slice_get t.attrs a) None class) (attribute (rows_of core) class a) ty (same_of_type core (λ (t : TypeRow). slice_get t.attrs a) None class) is)
      (takes.each place ∙ e))
  all_wide class (target.GetShared k) own takes = the_wide (rows_of core) own [] (λ place q e. absurd (none-some q (takes.each place ∙ e)))
  all_wide class (target.SetShared k) own takes =
      the_wide (rows_of core) own (option_map_or (λ (s : SharedRow). program.is_abstract (program_of core) s.ty) (slice_get (program_of core).shareds k) false ∷ [])
      (λ place q e. only_flag (shared_type (rows_of core) k) (option_map_or (λ (s : SharedRow). program.is_abstract (program_of core) s.ty) (slice_get (program_of core).shareds k) false) place q (shared_flag k) (takes.each place ∙ e))

  once_flag : (class k place : ℕ) (q : ParamType) → target_parameter (rows_of core) class (target.Feature k) place ≡ Some q → flag_at (wide_once (program_of core) (target.Feature k)) place ≡ true → is_abstract (rows_of core) q.ty ≡ true
  once_flag class k place q e h =
      let found = then_some (λ (f : TypedFeature). feature_parameter f place) (slice_get core.features k) q e in
      sym (var_flag found.0 place q found.2) ∙ both_second (map is_once found.0.modes) (map (program.is_abstract (program_of core)) found.0.vars) place
      (sym (ap (λ (o : Option Feature). flag_at (option_map_or (λ (f : Feature). both_of (map is_once f.modes) (map (program.is_abstract (program_of core)) f.vars)) o []) place) (program_feature core k found.0 found.1)) ∙ h)

  pub once_wide : (class : ℕ) (t : Target) (own : List ParamType) → Takes (rows_of core) class t own → AreWide (rows_of core) own (wide_once (program_of core) t)
  once_wide class (target.Feature k) own takes =
      are_wide (rows_of core) own (wide_once (program_of core) (target.Feature k)) (λ place q e h. once_flag class k place q (takes.each place ∙ e) h)
  once_wide class _ own takes = are_wide (rows_of core) own [] (λ place q e h. absurd (true≢false (sym h)))
