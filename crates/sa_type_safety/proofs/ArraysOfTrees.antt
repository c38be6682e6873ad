-- The classes with elements of a well-typed AST are no bound types.
use Rattle.std.proofs.Common.{◌≡◌, ℕ, false, true, not, ◌&&◌, ◌==◌, length, Option, Some, None, is_some, refl, sym, ◌∙◌, true≢false}
use Rattle.std.proofs.lemmas.Option.{none-some}
use Rattle.sa_ast.specs.Types.{BareTy, Named, Same, Rout, Iter, bare}
use Rattle.sa_typed.specs.declared.program.TypedProgram.{TypedProgram}
use Rattle.sa_typed.specs.declared.program.TypeDef.{TypeDef}
use Rattle.sa_typing.specs.declared.call_type.CallType.{CallType}
use Rattle.sa_typing.specs.Rows.{has_array, is_reference_kind, call_type_at}
use Rattle.sa_typing.specs.CallTypes.{bound_call_type}
use Rattle.sa_typing.specs.Types.{fits_bound, fits_kind, fits_name}
use Rattle.sa_typing.specs.WellTyped.{rows_of, IsWellTyped}
use Rattle.sa_type_safety.proofs.Facts.{first_of, second_of, not_true, type_at}
use Rattle.sa_type_safety.proofs.ExprType.{bound_type, seen}
use Rattle.sa_type_safety.proofs.Arrays.{ArrayFacts}

unbound : (o : Option CallType) → ((a : CallType) → o ≡ Some a → ⊥) → o ≡ None
unbound None h = refl
unbound (Some a) h = absurd (h a refl)

module _ (core : TypedProgram) (well : IsWellTyped core) where
  bound_bare : (ty : ℕ) (t : TypeDef) → fits_bound (rows_of core) ty t ≡ true → t.array ≡ false
  bound_bare ty t h =
      not_true t.array (second_of (length t.attrs == 0) (not t.array) (second_of (is_reference_kind t.kind) _
      (second_of (is_some (call_type_at (rows_of core).bound ty)) (is_reference_kind t.kind && (length t.attrs == 0 && not t.array)) h)))

  named_bare : (ty : ℕ) (t : TypeDef) (b : BareTy) (a : CallType) → bound_call_type core.types b ≡ Some a → fits_name (rows_of core) ty t b ≡ true → t.array ≡ false
  named_bare ty t (Named name given) a e h = absurd (none-some a e)
  named_bare ty t Same a e h = absurd (none-some a e)
  named_bare ty t (Rout arguments of) a e h = bound_bare ty t h
  named_bare ty t (Iter arguments of) a e h = bound_bare ty t h

  array_apart : (ty : ℕ) → has_array (rows_of core) ty ≡ true → (a : CallType) → call_type_at (rows_of core).bound ty ≡ Some a → ⊥
  array_apart ty h a e =
      let b = bound_type core well ty a e in
      let none = named_bare ty b.t (bare b.t.ty) a b.shape (first_of (fits_kind (rows_of core) ty b.t) _ (type_at well ty b.t b.is)) in
      true≢false (sym h ∙ seen core well (λ t. t.array) false ty b.t b.is ∙ none)

  pub array_unbound : (ty : ℕ) → has_array (rows_of core) ty ≡ true → call_type_at (rows_of core).bound ty ≡ None
  array_unbound ty h = unbound (call_type_at (rows_of core).bound ty) (array_apart ty h)

  pub tree_arrays : ArrayFacts (rows_of core)
  tree_arrays = record { array_unbound = array_unbound }
