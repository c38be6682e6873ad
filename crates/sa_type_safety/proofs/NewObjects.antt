-- New objects are well typed, and new arrays.
use Rattle.std.proofs.Common.{◌≡◌, ℕ, zero, suc, true, ◌==◌, List, [], map, length, replicate, Option, Some, None, slice_get, sym, ap, subst}
use Rattle.std.specs.Prelude.{ℤ, pos, int_lt}
use Rattle.std.specs.Option.{option_map_or}
use Rattle.sa_ast.specs.declared.fault_kind.FaultKind.TheVariants as fault_kind
use Rattle.sa_ast.specs.declared.pos.Pos.{Pos}
use Rattle.sa_typed.specs.declared.program.TypeDef.{TypeDef}
use Rattle.sa_typing.specs.Rows.{Rows, element_of, has_objects, is_reference}
use Rattle.sa_typing.specs.Features.{are_types, is_type_or_none}
use Rattle.sa_typing.specs.Types.{has_layout, fits_kind}
use Rattle.sa_semantics.specs.Program.{Program, type_row, void_of}
use Rattle.sa_semantics.specs.Value.{Value, Void, Ref}
use Rattle.sa_semantics.specs.Sequence.{pure}
use Rattle.sa_semantics.specs.Steps.{plain}
use Rattle.sa_semantics.specs.Builtin.{new_array, index_of}
use Rattle.sa_type_safety.specs.Typing.{Each, ObjectType, HasType, HasTypeIf, HaveTypes, ObjectWell, attributes}
use Rattle.sa_type_safety.proofs.Facts as facts
use Rattle.sa_type_safety.proofs.Facts.{first_of, second_of}
use Rattle.sa_type_safety.proofs.ProgramFacts.{ProgramFacts}
use Rattle.sa_type_safety.proofs.Worlds.{type_later}
use Rattle.sa_type_safety.proofs.Safe.{Point, Safe, safe_then, safe_before, safe_with, safe_if, safe_pure}
use Rattle.sa_type_safety.proofs.SafeSteps.{safe_charge, safe_add_object, safe_fault}
use Rattle.sa_type_safety.proofs.Passing.{holds_itself}
use Rattle.sa_type_safety.proofs.SafeRoutines.{voids_well}

module _ {w : Rows} {p : Program} (k : ProgramFacts w p) where
  -- ---- types of which there are objects

  pub type_row_of : (ty : ℕ) → has_objects w ty ≡ true → (t : TypeDef) × (slice_get w.types ty ≡ Some t)
  type_row_of ty h = let found = facts.some_that _ (slice_get w.types ty) (first_of (is_reference w ty) _ h) in (found.0, found.1)

  pub layout_of : (ty : ℕ) (t : TypeDef) → slice_get w.types ty ≡ Some t → (are_types w t.attrs ≡ true) × (is_type_or_none w t.elem ≡ true)
  layout_of ty t e =
      let laid = first_of (has_layout w t) _ (second_of (fits_kind w ty t) _ (facts.type_at k.well ty t e)) in
      let after = second_of (t.slots == length t.attrs) _ laid in
      (first_of (are_types w t.attrs) _ after, first_of (is_type_or_none w t.elem) _ (second_of (are_types w t.attrs) _ after))

  pub attributes_is : (ty : ℕ) (t : TypeDef) → slice_get w.types ty ≡ Some t → attributes w ty ≡ t.attrs
  attributes_is ty t e = ap (λ o. option_map_or (λ (i : TypeDef). i.attrs) o []) e

  pub element_is : (ty : ℕ) (t : TypeDef) → slice_get w.types ty ≡ Some t → element_of w ty ≡ t.elem
  element_is ty t e = ap (λ o. option_map_or (λ (i : TypeDef). i.elem) o None) e

  -- an object with void attributes
  pub new_well : (ks : List ObjectType) (ty : ℕ) (t : TypeDef) (elements : List Value) → has_objects w ty ≡ true → slice_get w.types ty ≡ Some t → Each (HasTypeIf w ks (element_of w ty)) elements → ObjectWell w ks (plain ty (map (void_of p) t.attrs) elements)
  new_well ks ty t elements h e are = ((h, subst (HaveTypes w ks (map (void_of p) t.attrs)) (sym (attributes_is ty t e)) (voids_well k ks t.attrs (layout_of ty t e).0)), are)

  pub safe_made : {base : List ObjectType} {x : Point} (ty number : ℕ) → has_objects w ty ≡ true → slice_get base number ≡ Some (record { ty = ty; binding = None }) → Safe w base x Value (λ ks v. HasType w ks v ty) (pure (Ref number))
  safe_made ty number h e = safe_pure (Ref number) (λ ks f. type_later w f (Ref number) ty (ty, e, h, holds_itself k ty))

  void_elements : (ks : List ObjectType) (elem : Option ℕ) (n : ℕ) → is_type_or_none w elem ≡ true → Each (HasTypeIf w ks elem) (replicate n (option_map_or (void_of p) elem Void))
  void_elements ks elem zero e = tt
  void_elements ks None (suc n) e = (tt, void_elements ks None n e)
  void_elements ks (Some ty) (suc n) e = (k.void_is ks ty e, void_elements ks (Some ty) n e)

  pub safe_new_array : {base : List ObjectType} {x : Point} (at : Pos) (ty : ℕ) (count : ℤ) → has_objects w ty ≡ true → Safe w base x Value (λ ks v. HasType w ks v ty) (new_array p ty at count)
  safe_new_array at ty count h =
      let t = type_row_of ty h in
      safe_if (int_lt count (pos 0)) (λ b. safe_fault k.well p fault_kind.Index at)
      (λ b. safe_with _ (type_row t.0) (k.type_at ty t.0 t.1)
      (safe_before (safe_charge k.well at _)
      (λ ks e. safe_then (safe_add_object k.well _ (λ js f. new_well js ty t.0 _ h t.1
      (subst (λ o. Each (HasTypeIf w js o) (replicate (index_of count) (option_map_or (void_of p) t.0.elem Void))) (sym (element_is ty t.0 t.1)) (void_elements js t.0.elem (index_of count) (layout_of ty t.0 t.1).1))))
      (λ js n f is. safe_made ty n h is))))
