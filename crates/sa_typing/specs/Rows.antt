-- The tables of a program: its types, features, shareds and signatures by their numbers, and the call types of bound values and of
-- signatures.
use Rattle.std.specs.Prelude.{ℕ, Bool, true, false, ◌&&◌, ◌||◌, not, ◌==◌, nat_eq, List, slice_get, Option, None}
use Rattle.std.specs.Prelude.{is_some, option_and_then}
use Rattle.std.specs.List.{list_any}
use Rattle.std.specs.Option.{option_map_or}
use Rattle.sa_ast.specs.declared.class.ClassKind.{ClassKind}
use Rattle.sa_ast.specs.declared.class.ClassKind.TheVariants as kind
use Rattle.sa_typed.specs.declared.feature.TypedFeature.{TypedFeature}
use Rattle.sa_typed.specs.declared.program.TypedShared.{TypedShared}
use Rattle.sa_typed.specs.declared.program.TypedSignature.{TypedSignature}
use Rattle.sa_typed.specs.declared.program.TypeDef.{TypeDef}
use Rattle.sa_typing.specs.declared.call_type.CallType.{CallType}
use Rattle.sa_typing.specs.declared.view.TypingView.{TypingView}

pub record Rows : Type 0 where
  pub types : List TypeDef
  pub features : List TypedFeature
  pub shareds : List TypedShared
  pub signatures : List TypedSignature
  -- by type, where it is a bound type: the call type of its values
  pub bound : List (Option CallType)
  -- by signature
  pub shapes : List (Option CallType)
  -- the number of ARRAY{CHAR}, where it is a type of the program
  pub characters : Option ℕ

abbrev pub rows : TypingView → Rows
rows v = record {
  types = v.types.now;
  features = v.features.now;
  shareds = v.shareds.now;
  signatures = v.signatures.now;
  bound = v.bound.now;
  shapes = v.shapes.now;
  characters = v.characters;
}

-- ---- types by their numbers

-- what a type has, or a default where there is no such type
abbrev pub of_type : {A : Type 0} → Rows → (TypeDef → A) → A → ℕ → A
of_type w see other ty = option_map_or see (slice_get w.types ty) other

abbrev pub is_type : Rows → ℕ → Bool
is_type w ty = is_some (slice_get w.types ty)

abbrev pub is_abstract_kind : ClassKind → Bool
is_abstract_kind kind.Abstract = true
is_abstract_kind _ = false

abbrev pub is_immutable_kind : ClassKind → Bool
is_immutable_kind kind.Immutable = true
is_immutable_kind _ = false

abbrev pub is_reference_kind : ClassKind → Bool
is_reference_kind kind.Reference = true
is_reference_kind _ = false

abbrev pub is_abstract : Rows → ℕ → Bool
is_abstract w = of_type w (λ t. is_abstract_kind t.kind) false

abbrev pub is_immutable : Rows → ℕ → Bool
is_immutable w = of_type w (λ t. is_immutable_kind t.kind) false

abbrev pub is_reference : Rows → ℕ → Bool
is_reference w = of_type w (λ t. is_reference_kind t.kind) false

-- the call type at an index, where there is one
abbrev pub call_type_at : List (Option CallType) → ℕ → Option CallType
call_type_at list place = option_and_then (λ shape. shape) (slice_get list place)

-- a reference class: no bound type, and not STR, whose values are texts
abbrev pub has_objects : Rows → ℕ → Bool
has_objects w ty = is_reference w ty && (not (is_some (call_type_at w.bound ty)) && not (ty == 6))

-- whether its objects have an array part
abbrev pub has_array : Rows → ℕ → Bool
has_array w = of_type w (λ t. t.array) false

-- the type of the elements
abbrev pub element_of : Rows → ℕ → Option ℕ
element_of w = of_type w (λ t. t.elem) None

-- the type of an attribute
abbrev pub attribute : Rows → ℕ → ℕ → Option ℕ
attribute w ty place = of_type w (λ t. slice_get t.attrs place) None ty

-- a type is one of the proper supertypes of another
unfoldable pub has_supertype : ℕ → TypeDef → Bool
has_supertype ty t = list_any (nat_eq ty) t.above

-- the first type is one of the proper supertypes of the other
abbrev pub is_strict_supertype : Rows → ℕ → ℕ → Bool
is_strict_supertype w ty other = of_type w (has_supertype ty) false other

-- the first type is the other one, or a supertype of it
abbrev pub is_supertype : Rows → ℕ → ℕ → Bool
is_supertype w ty other = ty == other || is_strict_supertype w ty other
