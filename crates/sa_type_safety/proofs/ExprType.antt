-- What the types of a well-typed AST are by their kinds: abstract, immutable or bound; and what the types are that each program has.
use Rattle.std.proofs.Common.{◌≡◌, ℕ, inl, inr, true, false, not, ◌&&◌, ◌||◌, ◌==◌, List, [], ◌∷◌, length, Option, Some, None, slice_get, option_map, option_and_then, is_some, is_none, refl, sym, ap, ◌∙◌, true≢false, eqb-true, arith}
use Rattle.std.specs.Option.{option_map_or}
use Rattle.std.proofs.lemmas.Option.{none-some, slice_get-map}
use Rattle.sa_ast.specs.declared.class.ClassKind.{ClassKind}
use Rattle.sa_ast.specs.declared.class.ClassKind.TheVariants as kind
use Rattle.sa_ast.specs.Types.{BareTy, Named, Same, Rout, Iter, bare}
use Rattle.sa_typed.specs.declared.program.TypedProgram.{TypedProgram}
use Rattle.sa_typed.specs.declared.program.TypedSignature.{TypedSignature}
use Rattle.sa_typed.specs.declared.program.TypeDef.{TypeDef}
use Rattle.sa_typing.specs.declared.call_type.CallType.{CallType}
use Rattle.sa_typing.specs.Rows.{has_array, has_objects, is_strict_supertype, is_abstract, is_abstract_kind, is_immutable, is_immutable_kind, is_reference, is_reference_kind, of_type, call_type_at}
use Rattle.sa_typing.specs.CallTypes.{bound_call_type, call_type_of_bound}
use Rattle.sa_typing.specs.Types.{fits_bound, fits_kind, fits_name, has_layout, has_fault_attributes, has_no_attributes, is_plain_immutable, is_plain_reference}
use Rattle.sa_typing.specs.Builtins.{bool_type, char_type, fault_type, int_type, ob_type, str_type}
use Rattle.sa_typing.specs.Features.{are_types, is_type_or_none}
use Rattle.sa_typing.specs.WellTyped.{rows_of, IsWellTyped}
use Rattle.sa_type_safety.specs.Typing.{attributes}
use Rattle.sa_type_safety.proofs.Facts.{first_of, second_of, one_of, not_true, some_that, type_at, signature_at}

-- ---- kinds

pub reference_abstract : (k : ClassKind) → is_reference_kind k ≡ true → is_abstract_kind k ≡ false
reference_abstract kind.Abstract h = absurd (true≢false (sym h))
reference_abstract _ h = refl

pub reference_immutable : (k : ClassKind) → is_reference_kind k ≡ true → is_immutable_kind k ≡ false
reference_immutable kind.Immutable h = absurd (true≢false (sym h))
reference_immutable _ h = refl

pub immutable_abstract : (k : ClassKind) → is_immutable_kind k ≡ true → is_abstract_kind k ≡ false
immutable_abstract kind.Abstract h = absurd (true≢false (sym h))
immutable_abstract _ h = refl

pub abstract_immutable : (k : ClassKind) → is_abstract_kind k ≡ true → is_immutable_kind k ≡ false
abstract_immutable kind.Immutable h = absurd (true≢false (sym h))
abstract_immutable _ h = refl

-- ---- what lists and options have

no_elements : (list : List ℕ) → (length list == 0) ≡ true → list ≡ []
no_elements [] h = refl
no_elements (a ∷ more) h = absurd (omega (arith, eqb-true (length (a ∷ more)) 0 h))

pub some_is : {A : Type 0} (o : Option A) → is_some o ≡ true → (a : A) × (o ≡ Some a)
some_is None h = absurd (true≢false (sym h))
some_is (Some a) h = (a, refl)

pub none_is : {A : Type 0} (o : Option A) → is_some o ≡ false → o ≡ None
none_is None h = refl
none_is (Some a) h = absurd (true≢false h)

none_of : {A : Type 0} (o : Option A) → ((a : A) → o ≡ Some a → ⊥) → o ≡ None
none_of None h = refl
none_of (Some a) h = absurd (h a refl)

attrs_of : (o : Option TypeDef) (a ty : ℕ) → slice_get (option_map_or (λ (t : TypeDef). t.attrs) o []) a ≡ Some ty → (t : TypeDef) × (o ≡ Some t) × (slice_get t.attrs a ≡ Some ty)
attrs_of None a ty e = absurd (none-some ty e)
attrs_of (Some t) a ty e = (t, refl, e)

shape_of_type : (see : TypeDef → Option CallType) (o : Option TypeDef) (a : CallType) → option_and_then (λ (shape : Option CallType). shape) (option_map see o) ≡ Some a → (t : TypeDef) × (o ≡ Some t) × (see t ≡ Some a)
shape_of_type see None a e = absurd (none-some a e)
shape_of_type see (Some t) a e = (t, refl, e)

module _ (core : TypedProgram) (well : IsWellTyped core) where
  -- ---- what is read of a type

  pub seen : {A : Type 0} (see : TypeDef → A) (other : A) (ty : ℕ) (t : TypeDef) → slice_get core.types ty ≡ Some t → of_type (rows_of core) see other ty ≡ see t
  seen see other ty t e = ap (λ (o : Option TypeDef). option_map_or see o other) e

  -- ---- bound types

  pub fits_parts : (ty : ℕ) (t : TypeDef) → fits_bound (rows_of core) ty t ≡ true → (is_reference_kind t.kind ≡ true) × (t.attrs ≡ [])
  fits_parts ty t h =
      let rest = second_of (is_some (call_type_at (rows_of core).bound ty)) (is_reference_kind t.kind && (length t.attrs == 0 && not t.array)) h in
      (first_of (is_reference_kind t.kind) _ rest, no_elements t.attrs (first_of (length t.attrs == 0) (not t.array) (second_of (is_reference_kind t.kind) _ rest)))

  bound_fits : (ty : ℕ) (t : TypeDef) (b : BareTy) (a : CallType) → bound_call_type core.types b ≡ Some a → fits_name (rows_of core) ty t b ≡ true → (is_reference_kind t.kind ≡ true) × (t.attrs ≡ [])
  bound_fits ty t (Named name given) a e h = absurd (none-some a e)
  bound_fits ty t Same a e h = absurd (none-some a e)
  bound_fits ty t (Rout arguments of) a e h = fits_parts ty t h
  bound_fits ty t (Iter arguments of) a e h = fits_parts ty t h

  -- a bound type with this call type is a reference without attributes
  pub record IsBoundType (ty : ℕ) (a : CallType) : Type 0 where
    pub t : TypeDef
    pub is : slice_get core.types ty ≡ Some t
    pub shape : call_type_of_bound core.types t ≡ Some a
    pub reference : is_reference_kind t.kind ≡ true
    pub attrs : t.attrs ≡ []

  pub bound_type : (ty : ℕ) (a : CallType) → call_type_at (rows_of core).bound ty ≡ Some a → IsBoundType ty a
  bound_type ty a e =
      let found = shape_of_type (call_type_of_bound core.types) (slice_get core.types ty) a (ap (option_and_then (λ (shape : Option CallType). shape)) (sym (slice_get-map (call_type_of_bound core.types) core.types ty)) ∙ e) in
      let fits = bound_fits ty found.0 (bare found.0.ty) a found.2 (first_of (fits_kind (rows_of core) ty found.0) _ (type_at well ty found.0 found.1)) in
      record { t = found.0; is = found.1; shape = found.2; reference = fits.0; attrs = fits.1 }

  pub bound_there : (ty : ℕ) (shape : CallType) → call_type_at (rows_of core).bound ty ≡ Some shape → (t : TypeDef) × (slice_get core.types ty ≡ Some t)
  bound_there ty a e = let b = bound_type ty a e in (b.t, b.is)

  pub bound_concrete : (ty : ℕ) (a : CallType) → call_type_at (rows_of core).bound ty ≡ Some a → is_abstract (rows_of core) ty ≡ false
  bound_concrete ty a e = let b = bound_type ty a e in seen (λ t. is_abstract_kind t.kind) false ty b.t b.is ∙ reference_abstract b.t.kind b.reference

  pub bound_loose : (ty : ℕ) (a : CallType) → call_type_at (rows_of core).bound ty ≡ Some a → is_immutable (rows_of core) ty ≡ false
  bound_loose ty a e = let b = bound_type ty a e in seen (λ t. is_immutable_kind t.kind) false ty b.t b.is ∙ reference_immutable b.t.kind b.reference

  pub bound_plain : (ty : ℕ) → is_some (call_type_at (rows_of core).bound ty) ≡ true → (is_abstract (rows_of core) ty ≡ false) × (is_immutable (rows_of core) ty ≡ false)
  bound_plain ty h = let a = some_is (call_type_at (rows_of core).bound ty) h in (bound_concrete ty a.0 a.1, bound_loose ty a.0 a.1)

  -- ---- abstract, immutable and reference types

  pub abstract_loose : (ty : ℕ) → is_abstract (rows_of core) ty ≡ true → is_immutable (rows_of core) ty ≡ false
  abstract_loose ty h =
      let found = some_that (λ (t : TypeDef). is_abstract_kind t.kind) (slice_get core.types ty) h in
      seen (λ t. is_immutable_kind t.kind) false ty found.0 found.1 ∙ abstract_immutable found.0.kind found.2

  pub abstract_unbound : (ty : ℕ) → is_abstract (rows_of core) ty ≡ true → call_type_at (rows_of core).bound ty ≡ None
  abstract_unbound ty h = none_of (call_type_at (rows_of core).bound ty) (λ a e. true≢false (sym h ∙ bound_concrete ty a e))

  pub immutable_plain : (ty : ℕ) → is_immutable (rows_of core) ty ≡ true → (is_abstract (rows_of core) ty ≡ false) × (call_type_at (rows_of core).bound ty ≡ None)
  immutable_plain ty h =
      let found = some_that (λ (t : TypeDef). is_immutable_kind t.kind) (slice_get core.types ty) h in (
        seen (λ t. is_abstract_kind t.kind) false ty found.0 found.1 ∙ immutable_abstract found.0.kind found.2,
        none_of (call_type_at (rows_of core).bound ty) (λ a e. true≢false (sym h ∙ bound_loose ty a e)),
      )

  pub reference_plain : (ty : ℕ) → is_reference (rows_of core) ty ≡ true → (is_abstract (rows_of core) ty ≡ false) × (is_immutable (rows_of core) ty ≡ false)
  reference_plain ty h =
      let found = some_that (λ (t : TypeDef). is_reference_kind t.kind) (slice_get core.types ty) h in (
        seen (λ t. is_abstract_kind t.kind) false ty found.0 found.1 ∙ reference_abstract found.0.kind found.2,
        seen (λ t. is_immutable_kind t.kind) false ty found.0 found.1 ∙ reference_immutable found.0.kind found.2,
      )

  pub object_plain : (ty : ℕ) → has_objects (rows_of core) ty ≡ true → (is_abstract (rows_of core) ty ≡ false) × (call_type_at (rows_of core).bound ty ≡ None) × (is_immutable (rows_of core) ty ≡ false)
  object_plain ty h =
      let kinds = reference_plain ty (first_of (is_reference (rows_of core) ty) _ h) in
      let unbound = first_of (not (is_some (call_type_at (rows_of core).bound ty))) (not (ty == 6)) (second_of (is_reference (rows_of core) ty) _ h) in
      (kinds.0, none_is (call_type_at (rows_of core).bound ty) (not_true (is_some (call_type_at (rows_of core).bound ty)) unbound), kinds.1)

  -- ---- the layout of a type

  pub layout_at : (ty : ℕ) (t : TypeDef) → slice_get core.types ty ≡ Some t → has_layout (rows_of core) t ≡ true
  layout_at ty t e = first_of (has_layout (rows_of core) t) _ (second_of (fits_kind (rows_of core) ty t) _ (type_at well ty t e))

  -- its attributes' types are types, an abstract one has none, and what has elements is a reference
  pub record HasLayout (t : TypeDef) : Type 0 where
    pub attrs : are_types (rows_of core) t.attrs ≡ true
    pub concrete : (length t.attrs == 0 || not (is_abstract_kind t.kind)) ≡ true
    pub array : (not t.array || is_reference_kind t.kind) ≡ true

  pub layout_of : (t : TypeDef) → has_layout (rows_of core) t ≡ true → HasLayout t
  layout_of t h =
      let first = second_of (t.slots == length t.attrs) _ h in
      let more = second_of (is_type_or_none (rows_of core) t.elem) ((length t.attrs == 0 || not (is_abstract_kind t.kind)) && (not t.array || is_reference_kind t.kind)) (second_of (are_types (rows_of core) t.attrs) _ first) in
      record {
        attrs = first_of (are_types (rows_of core) t.attrs) _ first;
        concrete = first_of (length t.attrs == 0 || not (is_abstract_kind t.kind)) _ more;
        array = second_of (length t.attrs == 0 || not (is_abstract_kind t.kind)) (not t.array || is_reference_kind t.kind) more;
      }

  concrete_with : (t : TypeDef) (a ty : ℕ) → slice_get t.attrs a ≡ Some ty → (length t.attrs == 0 || not (is_abstract_kind t.kind)) ≡ true → is_abstract_kind t.kind ≡ false
  concrete_with t a ty e h =
      elim (one_of (length t.attrs == 0) (not (is_abstract_kind t.kind)) h) as (λ x. is_abstract_kind t.kind ≡ false)
      [ inl none ↦ absurd (none-some ty (sym (ap (λ list. slice_get list a) (no_elements t.attrs none)) ∙ e)) | inr is ↦ not_true (is_abstract_kind t.kind) is ]

  pub attributed : (ty a of : ℕ) → slice_get (attributes (rows_of core) ty) a ≡ Some of → (is_abstract (rows_of core) ty ≡ false) × (call_type_at (rows_of core).bound ty ≡ None)
  attributed ty a of e =
      let found = attrs_of (slice_get core.types ty) a of e in (
        seen (λ t. is_abstract_kind t.kind) false ty found.0 found.1 ∙ concrete_with found.0 a of found.2 (layout_of found.0 (layout_at ty found.0 found.1)).concrete,
        none_of (call_type_at (rows_of core).bound ty) (λ shape is. let b = bound_type ty shape is in none-some of (sym (ap (λ list. slice_get list a) (seen (λ t. t.attrs) [] ty b.t b.is ∙ b.attrs)) ∙ e)),
      )

  -- what has elements is a reference, so not abstract
  pub array_concrete : (ty : ℕ) → has_array (rows_of core) ty ≡ true → is_abstract (rows_of core) ty ≡ false
  array_concrete ty h =
      let found = some_that (λ (t : TypeDef). t.array) (slice_get core.types ty) h in
      elim (one_of (not found.0.array) (is_reference_kind found.0.kind) (layout_of found.0 (layout_at ty found.0 found.1)).array) as (λ x. is_abstract (rows_of core) ty ≡ false) [
        | inl none ↦ absurd (true≢false (sym found.2 ∙ not_true found.0.array none))
        | inr is ↦ seen (λ t. is_abstract_kind t.kind) false ty found.0 found.1 ∙ reference_abstract found.0.kind is
      ]

  -- ---- the types that each program has

  -- an immutable class without attributes
  pub record IsPlain (ty : ℕ) : Type 0 where
    pub immutable : is_immutable (rows_of core) ty ≡ true
    pub plain : (is_abstract (rows_of core) ty ≡ false) × (call_type_at (rows_of core).bound ty ≡ None) × (attributes (rows_of core) ty ≡ [])

  plain_of : (ty : ℕ) → is_plain_immutable (rows_of core) ty ≡ true → IsPlain ty
  plain_of ty h =
      let found = some_that (λ (t : TypeDef). is_immutable_kind t.kind && length t.attrs == 0) (slice_get core.types ty) h in
      let is = seen (λ t. is_immutable_kind t.kind) false ty found.0 found.1 ∙ first_of (is_immutable_kind found.0.kind) _ found.2 in
      let kinds = immutable_plain ty is in
      record {
        immutable = is;
        plain = (kinds.0, kinds.1, seen (λ t. t.attrs) [] ty found.0 found.1 ∙ no_elements found.0.attrs (second_of (is_immutable_kind found.0.kind) (length found.0.attrs == 0) found.2));
      }

  pub ob_abstract : is_abstract (rows_of core) ob_type ≡ true
  ob_abstract = first_of (is_abstract (rows_of core) ob_type) _ well.given

  pub bool_is : IsPlain bool_type
  bool_is = plain_of bool_type (first_of (is_plain_immutable (rows_of core) bool_type) _ (second_of (is_abstract (rows_of core) ob_type) _ well.given))

  pub int_is : IsPlain int_type
  int_is =
      plain_of int_type (first_of (is_plain_immutable (rows_of core) int_type) _
      (second_of (is_plain_immutable (rows_of core) bool_type) _ (second_of (is_abstract (rows_of core) ob_type) _ well.given)))

  from_char : (is_plain_immutable (rows_of core) char_type && (is_plain_reference (rows_of core) str_type && (has_no_attributes (rows_of core) str_type && (is_plain_reference (rows_of core) fault_type && (has_fault_attributes (rows_of core) && is_strict_supertype (rows_of core) ob_type fault_type))))) ≡ true
  from_char =
      second_of (is_plain_immutable (rows_of core) int_type) _ (second_of (is_plain_immutable (rows_of core) bool_type) _
      (second_of (is_abstract (rows_of core) ob_type) _ well.given))

  pub char_is : IsPlain char_type
  char_is = plain_of char_type (first_of (is_plain_immutable (rows_of core) char_type) _ from_char)

  -- STR is a reference without attributes
  pub record IsStr : Type 0 where
    pub loose : is_immutable (rows_of core) str_type ≡ false
    pub plain : (is_abstract (rows_of core) str_type ≡ false) × (call_type_at (rows_of core).bound str_type ≡ None) × (attributes (rows_of core) str_type ≡ [])

  pub str_is : IsStr
  str_is =
      let from = second_of (is_plain_immutable (rows_of core) char_type) _ from_char in
      let reference = first_of (is_plain_reference (rows_of core) str_type) _ from in
      let kinds = reference_plain str_type (first_of (is_reference (rows_of core) str_type) _ reference) in
      let unbound = first_of (is_none (call_type_at (rows_of core).bound str_type)) (not (has_array (rows_of core) str_type)) (second_of (is_reference (rows_of core) str_type) _ reference) in
      let none = first_of (has_no_attributes (rows_of core) str_type) _ (second_of (is_plain_reference (rows_of core) str_type) _ from) in
      let found = some_that (λ (t : TypeDef). length t.attrs == 0) (slice_get core.types str_type) none in
      record {
        loose = kinds.1;
        plain = (kinds.0, none_is (call_type_at (rows_of core).bound str_type) (not_true (is_some (call_type_at (rows_of core).bound str_type)) unbound), seen (λ t. t.attrs) [] str_type found.0 found.1 ∙ no_elements found.0.attrs found.2);
      }

  -- ---- signatures

  pub signature_abstract : (n : ℕ) (s : TypedSignature) → slice_get core.sigs n ≡ Some s → is_abstract (rows_of core) s.ty ≡ true
  signature_abstract n s e = first_of (is_abstract (rows_of core) s.ty) _ (signature_at well n s e)
