-- What calls of signatures and of bound values box when they return: written types say it as the rows do.
use Rattle.std.proofs.Common.{◌≡◌, ℕ, suc, ◌+◌, inl, inr, Bool, true, false, List, [], ◌∷◌, Option, Some, None, slice_get, option_map, option_and_then, refl, sym, ap, ap₂, subst, ◌∙◌, true≢false, arith}
use Rattle.std.proofs.lemmas.Bool.{cases_Bool, cond-true, cond-false}
use Rattle.std.proofs.lemmas.Option.{none-some, same_Some, slice_get-map}
use Rattle.sa_ast.specs.declared.class.ClassKind.{ClassKind}
use Rattle.sa_ast.specs.declared.class.ClassKind.TheVariants as kind
use Rattle.sa_ast.specs.TypeEquality.{same_type, same_type_Decides}
use Rattle.sa_ast.specs.Types.{BareTy, Named, Same, Rout, Iter, BareArgs, no_args, arg, BareResult, no_result, gives, bare, all_bare_args, option_bare}
use Rattle.sa_subst.specs.Abstract.{is_abstract_bare, is_abstract_type}
use Rattle.sa_typed.specs.declared.program.TypedProgram.{TypedProgram}
use Rattle.sa_typed.specs.declared.program.TypedSignature.{TypedSignature}
use Rattle.sa_typed.specs.declared.program.TypeDef.{TypeDef}
use Rattle.sa_typing.specs.declared.expr_type.ParamType.{ParamType}
use Rattle.sa_typing.specs.declared.call_type.CallType.{CallType}
use Rattle.sa_typing.specs.Rows.{is_abstract, is_abstract_kind, call_type_at}
use Rattle.sa_typing.specs.CallTypes.{bound_call_type, is_iter_name, number_in, number_of, parameters_of, result_number, call_type_of, call_type_with, signature_call_type, call_type_of_bound}
use Rattle.sa_typing.specs.Types.{fits_class, fits_kind, fits_name, is_class_kind}
use Rattle.sa_typing.specs.WellTyped.{rows_of, IsWellTyped}
use Rattle.sa_semantics.specs.Program.{has_wide_result, is_wide_result, signature_of, type_row, wide_arguments_of, wide_list}
use Rattle.sa_type_safety.proofs.Facts.{first_of, type_at}
use Rattle.sa_type_safety.proofs.ExprType.{bound_type, fits_parts, reference_abstract, seen}
use Rattle.sa_type_safety.proofs.ProgramFacts.{wide_of, wide_result}

-- ---- options that are there

pub then_some : {A B : Type 0} (f : A → Option B) (o : Option A) (b : B) → option_and_then f o ≡ Some b → (a : A) × (o ≡ Some a) × (f a ≡ Some b)
then_some f None b e = absurd (none-some b e)
then_some f (Some a) b e = (a, refl, e)

pub map_some : {A B : Type 0} (f : A → B) (o : Option A) (b : B) → option_map f o ≡ Some b → (a : A) × (o ≡ Some a) × (f a ≡ b)
map_some f None b e = absurd (none-some b e)
map_some f (Some a) b e = (a, refl, same_Some (f a) b e)

-- ---- a written type is abstract where the type with its index is

class_dollar : (k : ClassKind) (dollar : Bool) → is_class_kind k dollar ≡ true → dollar ≡ is_abstract_kind k
class_dollar kind.Partial dollar h = absurd (true≢false (sym h))
class_dollar kind.Abstract true h = refl
class_dollar kind.Abstract false h = absurd (true≢false (sym h))
class_dollar kind.Reference true h = absurd (true≢false (sym h))
class_dollar kind.Reference false h = refl
class_dollar kind.Immutable true h = absurd (true≢false (sym h))
class_dollar kind.Immutable false h = refl

dollar_class : (t : TypeDef) → fits_class t ≡ true → is_abstract_bare (bare t.ty) ≡ is_abstract_kind t.kind
unfolding is_abstract_type
dollar_class t h = class_dollar t.kind (is_abstract_bare (bare t.ty)) h

-- a type of a list that is this one but for positions
record IsNumber (list : List TypeDef) (from : ℕ) (ty : BareTy) (n : ℕ) : Type 0 where
  pub place : ℕ
  pub t : TypeDef
  pub number : n ≡ from + place
  pub is : slice_get list place ≡ Some t
  pub same : bare t.ty ≡ ty

number_found : (list : List TypeDef) (from : ℕ) (ty : BareTy) (n : ℕ) → number_in list from ty ≡ Some n → IsNumber list from ty n
number_found [] from ty n e = absurd (none-some n e)
number_found (t ∷ more) from ty n e =
    elim (cases_Bool (same_type (bare t.ty) ty)) as (λ x. IsNumber (t ∷ more) from ty n) [
      | inl h ↦
          (let same : from ≡ n = same_Some from n (sym (cond-true (same_type (bare t.ty) ty) (Some from) (number_in more (from + 1) ty) h) ∙ e) in
          record { place = 0; t = t; number = omega (arith, same); is = refl; same = (same_type_Decides (bare t.ty) ty).0 h })
      | inr h ↦
          (let next = number_found more (from + 1) ty n (sym (cond-false (same_type (bare t.ty) ty) (Some from) (number_in more (from + 1) ty) h) ∙ e) in
          record { place = suc next.place; t = next.t; number = omega (arith, next.number); is = next.is; same = next.same })
    ]

module _ (core : TypedProgram) (well : IsWellTyped core) where
  name_abstract : (ty : ℕ) (t : TypeDef) (b : BareTy) → bare t.ty ≡ b → fits_name (rows_of core) ty t b ≡ true → is_abstract_bare b ≡ is_abstract_kind t.kind
  name_abstract ty t (Named name given) e h = ap is_abstract_bare (sym e) ∙ dollar_class t h
  name_abstract ty t Same e h = absurd (true≢false (sym h))
  name_abstract ty t (Rout arguments of) e h = sym (reference_abstract t.kind (fits_parts core well ty t h).0)
  name_abstract ty t (Iter arguments of) e h = sym (reference_abstract t.kind (fits_parts core well ty t h).0)

  number_abstract : (ty : BareTy) (n : ℕ) → number_of core.types ty ≡ Some n → is_abstract_bare ty ≡ is_abstract (rows_of core) n
  number_abstract ty n e =
      let found = number_found core.types 0 ty n e in
      let there : slice_get core.types n ≡ Some found.t = ap (slice_get core.types) (omega (arith, found.number)) ∙ found.is in
      ap is_abstract_bare (sym found.same)
      ∙ name_abstract n found.t (bare found.t.ty) refl (first_of (fits_kind (rows_of core) n found.t) _ (type_at well n found.t there))
      ∙ sym (seen core well (λ t. is_abstract_kind t.kind) false n found.t there)

  -- ---- parameters and results as they are written

  params_wide : (arguments : BareArgs) (params : List ParamType) → parameters_of core.types arguments ≡ Some params → wide_list arguments ≡ wide_of (rows_of core) params
  params_wide no_args params e = ap (wide_of (rows_of core)) (same_Some [] params e)
  params_wide (arg m ty more) params e =
      let first = then_some (λ (n : ℕ). option_map (λ (rest : List ParamType). record { mode = m; ty = n } ∷ rest) (parameters_of core.types more)) (number_of core.types ty) params e in
      let next = map_some (λ (rest : List ParamType). record { mode = m; ty = first.0 } ∷ rest) (parameters_of core.types more) params first.2 in
      ap₂ (λ b list. b ∷ list) (number_abstract ty first.0 first.1) (params_wide more next.0 next.1) ∙ ap (wide_of (rows_of core)) next.2

  result_wide : (result : BareResult) (number : Option ℕ) → result_number core.types result ≡ Some number → is_wide_result result ≡ wide_result (rows_of core) number
  result_wide no_result number e = ap (wide_result (rows_of core)) (same_Some None number e)
  result_wide (gives ty) number e =
      let found = map_some (λ (n : ℕ). Some n) (number_of core.types ty) number e in
      number_abstract ty found.0 found.1 ∙ ap (wide_result (rows_of core)) found.2

  shape_parts : (iter : Bool) (params : Option (List ParamType)) (result : Option (Option ℕ)) (shape : CallType) → call_type_with iter params result ≡ Some shape → (params ≡ Some shape.params) × (result ≡ Some shape.result)
  shape_parts iter None result shape e = absurd (none-some shape e)
  shape_parts iter (Some params) None shape e = absurd (none-some shape e)
  shape_parts iter (Some params) (Some result) shape e =
      let same = same_Some (record { iter = iter; params = params; result = result }) shape e in
      (ap (λ (s : CallType). Some s.params) same, ap (λ (s : CallType). Some s.result) same)

  shape_wide : (iter : Bool) (arguments : BareArgs) (result : BareResult) (shape : CallType) → call_type_of core.types iter arguments result ≡ Some shape → (wide_list arguments ≡ wide_of (rows_of core) shape.params) × (is_wide_result result ≡ wide_result (rows_of core) shape.result)
  shape_wide iter arguments result shape e =
      let parts = shape_parts iter (parameters_of core.types arguments) (result_number core.types result) shape e in
      (params_wide arguments shape.params parts.0, result_wide result shape.result parts.1)

  pub signature_wide : (k : ℕ) (s : TypedSignature) (shape : CallType) → slice_get core.sigs k ≡ Some s → call_type_at (rows_of core).shapes k ≡ Some shape → ((signature_of s).wide_args ≡ wide_of (rows_of core) shape.params) × ((signature_of s).wide ≡ wide_result (rows_of core) shape.result)
  signature_wide k s shape e h =
      let there : slice_get (rows_of core).shapes k ≡ Some (signature_call_type core.types s) = slice_get-map (signature_call_type core.types) core.sigs k ∙ ap (option_map (signature_call_type core.types)) e in
      shape_wide (is_iter_name s.sig.name) (all_bare_args s.sig.args) (option_bare s.sig.result) shape (sym (ap (option_and_then (λ (shape : Option CallType). shape)) there) ∙ h)

  type_wide : (b : BareTy) (shape : CallType) → bound_call_type core.types b ≡ Some shape → (wide_arguments_of b ≡ wide_of (rows_of core) shape.params) × (has_wide_result b ≡ wide_result (rows_of core) shape.result)
  type_wide (Named name given) shape e = absurd (none-some shape e)
  type_wide Same shape e = absurd (none-some shape e)
  type_wide (Rout arguments of) shape e = shape_wide false arguments of shape e
  type_wide (Iter arguments of) shape e = shape_wide true arguments of shape e

  pub bound_wide : (ty : ℕ) (t : TypeDef) (shape : CallType) → slice_get core.types ty ≡ Some t → call_type_at (rows_of core).bound ty ≡ Some shape → ((type_row t).wide_args ≡ wide_of (rows_of core) shape.params) × ((type_row t).wide ≡ wide_result (rows_of core) shape.result)
  bound_wide ty t shape e h =
      let b = bound_type core well ty shape h in
      type_wide (bare t.ty) shape (subst (λ (x : TypeDef). call_type_of_bound core.types x ≡ Some shape) (same_Some b.t t (sym b.is ∙ e)) b.shape)
