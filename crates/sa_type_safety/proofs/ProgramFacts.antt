-- The facts that relate the rows of a well-typed AST and the program of its semantics: all that the lemmas on runs ask of an AST.
use Rattle.std.specs.Prelude.{◌≡◌, ℕ, ◌⊎◌, Bool, true, false, ◌==◌, List, [], ◌∷◌, map, slice_get, find, Option, Some, None, is_some}
use Rattle.std.specs.Option.{option_map_or}
use Rattle.sa_typed.specs.declared.feature.TypedFeature.{TypedFeature}
use Rattle.sa_typed.specs.declared.feature.Target.{Target}
use Rattle.sa_typed.specs.declared.program.TypedImplementation.{TypedImplementation}
use Rattle.sa_typed.specs.declared.program.TypedShared.{TypedShared}
use Rattle.sa_typed.specs.declared.program.TypedSignature.{TypedSignature}
use Rattle.sa_typed.specs.declared.program.TypeDef.{TypeDef}
use Rattle.sa_typed.specs.Copy.{block_of}
use Rattle.sa_typing.specs.declared.expr_type.ParamType.{ParamType}
use Rattle.sa_typing.specs.declared.call_type.CallType.{CallType}
use Rattle.sa_typing.specs.Rows.{Rows, element_of, has_array, has_objects, is_supertype, is_strict_supertype, is_abstract, is_immutable, is_type, call_type_at}
use Rattle.sa_typing.specs.Builtins.{bool_type, char_type, int_type, str_type}
use Rattle.sa_typing.specs.Features.{feature_env}
use Rattle.sa_typing.specs.Contexts.{outside}
use Rattle.sa_typing.specs.Signatures.{is_implementation}
use Rattle.sa_typing.specs.Sites.{stmts_sites}
use Rattle.sa_typing.specs.Targets.{target_arity}
use Rattle.sa_typing.specs.Types.{call_types_alike}
use Rattle.sa_typing.specs.WellTyped.{AreWellTyped}
use Rattle.sa_semantics.specs.Program as program
use Rattle.sa_semantics.specs.Program.{Program, type_row, feature_of, signature_of, shared_row, void_of}
use Rattle.sa_semantics.specs.Calls.{wide_arguments, wide_once}
use Rattle.sa_type_safety.specs.Typing.{ObjectType, Each, HasType, Takes, attributes, first_at}

-- which of the parameters have abstract types
abbrev pub wide_of : Rows → List ParamType → List Bool
wide_of w = map (λ p. is_abstract w p.ty)

abbrev pub wide_result : Rows → Option ℕ → Bool
wide_result w ty = option_map_or (is_abstract w) ty false

-- ---- which arguments are boxed

-- these have abstract types
abbrev pub AreWide : Rows → List ParamType → List Bool → Type 0
AreWide w [] flags = Unit {0}
AreWide w (p ∷ params) [] = Unit {0}
AreWide w (p ∷ params) (b ∷ flags) = (b ≡ true → is_abstract w p.ty ≡ true) × AreWide w params flags

-- these and no others
abbrev pub AreTheWide : Rows → List ParamType → List Bool → Type 0
AreTheWide w [] flags = Unit {0}
AreTheWide w (p ∷ params) [] = (is_abstract w p.ty ≡ false) × AreTheWide w params []
AreTheWide w (p ∷ params) (b ∷ flags) = (b ≡ is_abstract w p.ty) × AreTheWide w params flags

pub record ProgramFacts (w : Rows) (p : Program) : Type 0 where
  pub number : ℕ
  pub well : AreWellTyped w number
  -- the rows of the program
  pub type_at : (ty : ℕ) (t : TypeDef) → slice_get w.types ty ≡ Some t → slice_get p.types ty ≡ Some (type_row t)
  pub feature_at : (k : ℕ) (f : TypedFeature) → slice_get w.features k ≡ Some f → slice_get p.features k ≡ Some (feature_of f)
  pub signature_at : (k : ℕ) (s : TypedSignature) → slice_get w.signatures k ≡ Some s → slice_get p.signatures k ≡ Some (signature_of s)
  pub shared_at : (k : ℕ) (s : TypedShared) → slice_get w.shareds k ≡ Some s → slice_get p.shareds k ≡ Some (shared_row s)
  pub abstract_is : (ty : ℕ) → program.is_abstract p ty ≡ is_abstract w ty
  pub immutable_is : (ty : ℕ) → program.is_immutable p ty ≡ is_immutable w ty
  pub attributes_are : (ty : ℕ) → program.of_type p (λ t. t.attrs) [] ty ≡ attributes w ty
  pub element_is : (ty : ℕ) → program.of_type p (λ t. t.elem) None ty ≡ element_of w ty
  pub holds_is : (ty other : ℕ) → program.is_supertype p ty other ≡ is_supertype w ty other
  -- a supertype of a supertype of a type is one of its supertypes
  pub above_above : (a b c : ℕ) → is_supertype w a b ≡ true → is_supertype w b c ≡ true → is_supertype w a c ≡ true
  -- a proper supertype of a type is abstract, or both are bound types and values of the subtype may be used as values of the supertype
  pub above_is : (upper lower : ℕ) → is_strict_supertype w upper lower ≡ true
      → (is_abstract w upper ≡ true)
      ⊎ ((a : CallType) × (b : CallType) × (call_type_at w.bound lower ≡ Some a) × (call_type_at w.bound upper ≡ Some b) × (call_types_alike w a b ≡ true))
  pub abstract_loose : (ty : ℕ) → is_abstract w ty ≡ true → is_immutable w ty ≡ false
  pub abstract_unbound : (ty : ℕ) → is_abstract w ty ≡ true → call_type_at w.bound ty ≡ None
  pub bound_loose : (ty : ℕ) (a : CallType) → call_type_at w.bound ty ≡ Some a → is_immutable w ty ≡ false
  pub int_immutable : is_immutable w int_type ≡ true
  pub bool_immutable : is_immutable w bool_type ≡ true
  pub char_immutable : is_immutable w char_type ≡ true
  pub str_loose : is_immutable w str_type ≡ false
  -- classes of which there are values
  pub int_plain : (is_abstract w int_type ≡ false) × (call_type_at w.bound int_type ≡ None) × (attributes w int_type ≡ [])
  pub bool_plain : (is_abstract w bool_type ≡ false) × (call_type_at w.bound bool_type ≡ None) × (attributes w bool_type ≡ [])
  pub char_plain : (is_abstract w char_type ≡ false) × (call_type_at w.bound char_type ≡ None) × (attributes w char_type ≡ [])
  pub str_plain : (is_abstract w str_type ≡ false) × (call_type_at w.bound str_type ≡ None) × (attributes w str_type ≡ [])
  pub object_plain : (ty : ℕ) → has_objects w ty ≡ true → (is_abstract w ty ≡ false) × (call_type_at w.bound ty ≡ None) × (is_immutable w ty ≡ false)
  pub bound_plain : (ty : ℕ) → is_some (call_type_at w.bound ty) ≡ true → (is_abstract w ty ≡ false) × (is_immutable w ty ≡ false)
  pub immutable_plain : (ty : ℕ) → is_immutable w ty ≡ true → (is_abstract w ty ≡ false) × (call_type_at w.bound ty ≡ None)
  pub attributed : (ty a of : ℕ) → slice_get (attributes w ty) a ≡ Some of → (is_abstract w ty ≡ false) × (call_type_at w.bound ty ≡ None)
  pub array_unbound : (ty : ℕ) → has_array w ty ≡ true → call_type_at w.bound ty ≡ None
  pub signature_abstract : (n : ℕ) (s : TypedSignature) → slice_get w.signatures n ≡ Some s → is_abstract w s.ty ≡ true
  -- the void of a type is of the type
  pub void_is : (ks : List ObjectType) (ty : ℕ) → is_type w ty ≡ true → HasType w ks (void_of p ty) ty
  -- a signature has an implementation of each concrete subtype
  pub implemented : (k : ℕ) (s : TypedSignature) (own : ℕ) → slice_get w.signatures k ≡ Some s → is_strict_supertype w s.ty own ≡ true → is_abstract w own ≡ false
      → (i : TypedImplementation) × (shape : CallType) × (find (λ i. i.ty == own) s.impls ≡ Some i) × (i.ty ≡ own) × (call_type_at w.shapes k ≡ Some shape)
      × (is_implementation w shape s.ty i ≡ true)
  -- what calls of signatures and of bound values box when they return
  pub signature_wide : (k : ℕ) (s : TypedSignature) (shape : CallType) → slice_get w.signatures k ≡ Some s → call_type_at w.shapes k ≡ Some shape
      → ((signature_of s).wide_args ≡ wide_of w shape.params) × ((signature_of s).wide ≡ wide_result w shape.result)
  pub bound_wide : (ty : ℕ) (t : TypeDef) (shape : CallType) → slice_get w.types ty ≡ Some t → call_type_at w.bound ty ≡ Some shape
      → ((type_row t).wide_args ≡ wide_of w shape.params) × ((type_row t).wide ≡ wide_result w shape.result)
  -- a bound type is a type
  pub bound_there : (ty : ℕ) (shape : CallType) → call_type_at w.bound ty ≡ Some shape → (t : TypeDef) × (slice_get w.types ty ≡ Some t)
  -- the parameters of a target of a class
  pub taken : (class : ℕ) (t : Target) → is_some (target_arity w class t) ≡ true → (params : List ParamType) × Takes w class t params
  pub once_wide : (class : ℕ) (t : Target) (own : List ParamType) → Takes w class t own → AreWide w own (wide_once p t)
  pub all_wide : (class : ℕ) (t : Target) (own : List ParamType) → Takes w class t own → AreTheWide w own (wide_arguments p (Some class) t)
  -- all calls of bound values at a site of a feature are of the type that comes first
  pub agreed : (k : ℕ) (f : TypedFeature) → slice_get w.features k ≡ Some f
      → Each (λ s. first_at (stmts_sites (feature_env w f) outside (block_of f.body)) s.0 ≡ Some s.1) (stmts_sites (feature_env w f) outside (block_of f.body))
