-- What the conditions of a well-typed AST say of its rows, one by one.
use Rattle.std.proofs.Common.{◌≡◌, ℕ, zero, suc, ◌+◌, ◌⊎◌, inl, inr, Bool, true, false, not, ◌&&◌, ◌||◌, ◌==◌, cond, List, [], ◌∷◌, Option, Some, None, slice_get, find, option_map, is_some, is_none, refl, sym, ap, ap₂, subst, ◌∙◌, true≢false, eqb-true, arith}
use Rattle.std.specs.Prelude.{nat_eq}
use Rattle.std.specs.List.{list_all, list_any}
use Rattle.std.specs.Option.{option_map_or}
use Rattle.std.proofs.lemmas.Bool.{and_from, cases_Bool, eq-eqb, ne_eqb}
use Rattle.std.proofs.lemmas.Option.{same_Some, none-some, slice_get-map}
use Rattle.sa_ast.specs.declared.class.ClassKind.{ClassKind}
use Rattle.sa_ast.specs.declared.class.ClassKind.TheVariants as kind
use Rattle.sa_typed.specs.declared.feature.TypedFeature.{TypedFeature}
use Rattle.sa_typed.specs.declared.program.TypedProgram.{TypedProgram}
use Rattle.sa_typed.specs.declared.program.TypedShared.{TypedShared}
use Rattle.sa_typed.specs.declared.program.TypedSignature.{TypedSignature}
use Rattle.sa_typed.specs.declared.program.TypeDef.{TypeDef}
use Rattle.sa_typing.specs.Rows.{Rows, of_type, is_abstract, is_abstract_kind, is_immutable, is_immutable_kind, is_strict_supertype, has_supertype, is_supertype, has_objects, element_of}
use Rattle.sa_typing.specs.Types.{are_two_ints, has_fault_attributes, has_no_attributes, is_plain_immutable, is_plain_reference, well_type, well_types}
use Rattle.sa_typing.specs.Signatures.{well_signature, well_signatures}
use Rattle.sa_typing.specs.Builtins.{bool_type, char_type, fault_type, int_type, ob_type, str_type}
use Rattle.sa_typing.specs.Features.{well_feature, well_shared}
use Rattle.sa_typing.specs.WellTyped.{AreWellTyped, rows_of}
use Rattle.sa_semantics.specs.Program as program
use Rattle.sa_semantics.specs.Program.{program_of, type_row, feature_of, signature_of, shared_row}
use Rattle.sa_type_safety.specs.Typing.{attributes}

-- ---- tests

pub first_of : (a b : Bool) → (a && b) ≡ true → a ≡ true
first_of true b e = refl
first_of false b e = e

pub second_of : (a b : Bool) → (a && b) ≡ true → b ≡ true
second_of true b e = e
second_of false b e = absurd (true≢false (sym e))

pub one_of : (a b : Bool) → (a || b) ≡ true → (a ≡ true) ⊎ (b ≡ true)
one_of true b e = inl refl
one_of false b e = inr e

pub not_true : (a : Bool) → not a ≡ true → a ≡ false
not_true true e = sym e
not_true false e = refl

pub all_at : {A : Type 0} (test : A → Bool) (list : List A) (i : ℕ) (a : A) → list_all test list ≡ true → slice_get list i ≡ Some a → test a ≡ true
all_at test [] i a h e = absurd (none-some a e)
all_at test (b ∷ more) zero a h e = subst (λ x. test x ≡ true) (same_Some b a e) (first_of _ _ h)
all_at test (b ∷ more) (suc i) a h e = all_at test more i a (second_of _ _ h) e

-- ---- rows by their indices

module _ (w : Rows) where
  type_from : (n : ℕ) (list : List TypeDef) (i : ℕ) (t : TypeDef) → well_types w n list ≡ true → slice_get list i ≡ Some t → well_type w (n + i) t ≡ true
  type_from n [] i t h e = absurd (none-some t e)
  type_from n (a ∷ more) zero t h e = subst (λ k. well_type w k t ≡ true) (omega arith) (subst (λ x. well_type w n x ≡ true) (same_Some a t e) (first_of _ _ h))
  type_from n (a ∷ more) (suc i) t h e = subst (λ k. well_type w k t ≡ true) (omega arith) (type_from (n + 1) more i t (second_of _ _ h) e)

  signature_from : (n : ℕ) (list : List TypedSignature) (i : ℕ) (s : TypedSignature) → well_signatures w n list ≡ true → slice_get list i ≡ Some s → well_signature w (n + i) s ≡ true
  signature_from n [] i s h e = absurd (none-some s e)
  signature_from n (a ∷ more) zero s h e = subst (λ k. well_signature w k s ≡ true) (omega arith) (subst (λ x. well_signature w n x ≡ true) (same_Some a s e) (first_of _ _ h))
  signature_from n (a ∷ more) (suc i) s h e = subst (λ k. well_signature w k s ≡ true) (omega arith) (signature_from (n + 1) more i s (second_of _ _ h) e)

module _ {w : Rows} {number : ℕ} (well : AreWellTyped w number) where
  pub type_at : (ty : ℕ) (t : TypeDef) → slice_get w.types ty ≡ Some t → well_type w ty t ≡ true
  type_at ty t e = subst (λ k. well_type w k t ≡ true) (omega arith) (type_from w 0 w.types ty t well.types e)

  pub signature_at : (k : ℕ) (s : TypedSignature) → slice_get w.signatures k ≡ Some s → well_signature w k s ≡ true
  signature_at k s e = subst (λ n. well_signature w n s ≡ true) (omega arith) (signature_from w 0 w.signatures k s well.signatures e)

  pub feature_at : (k : ℕ) (f : TypedFeature) → slice_get w.features k ≡ Some f → well_feature w f ≡ true
  feature_at k f e = all_at (well_feature w) w.features k f well.features e

  pub shared_at : (k : ℕ) (s : TypedShared) → slice_get w.shareds k ≡ Some s → well_shared w s ≡ true
  shared_at k s e = all_at (well_shared w) w.shareds k s well.shareds e

-- ---- the program of the semantics has the same rows as the AST

module _ (core : TypedProgram) where
  pub program_type : (ty : ℕ) (t : TypeDef) → slice_get core.types ty ≡ Some t → slice_get (program_of core).types ty ≡ Some (type_row t)
  program_type ty t e = slice_get-map type_row core.types ty ∙ ap (option_map type_row) e

  pub program_feature : (k : ℕ) (f : TypedFeature) → slice_get core.features k ≡ Some f → slice_get (program_of core).features k ≡ Some (feature_of f)
  program_feature k f e = slice_get-map feature_of core.features k ∙ ap (option_map feature_of) e

  pub program_signature : (k : ℕ) (s : TypedSignature) → slice_get core.sigs k ≡ Some s → slice_get (program_of core).signatures k ≡ Some (signature_of s)
  program_signature k s e = slice_get-map signature_of core.sigs k ∙ ap (option_map signature_of) e

  pub program_shared : (k : ℕ) (s : TypedShared) → slice_get core.shareds k ≡ Some s → slice_get (program_of core).shareds k ≡ Some (shared_row s)
  program_shared k s e = slice_get-map shared_row core.shareds k ∙ ap (option_map shared_row) e

-- ---- types as the program has them

map_or_map : {A B C : Type 0} (f : A → B) (see : B → C) (other : C) (o : Option A) → option_map_or see (option_map f o) other ≡ option_map_or (λ a. see (f a)) o other
map_or_map f see other None = refl
map_or_map f see other (Some a) = refl

same_abstract_kind : (k : ClassKind) → program.is_abstract_kind k ≡ is_abstract_kind k
same_abstract_kind kind.Abstract = refl
same_abstract_kind _ = refl

same_immutable_kind : (k : ClassKind) → program.is_immutable_kind k ≡ is_immutable_kind k
same_immutable_kind kind.Immutable = refl
same_immutable_kind _ = refl

-- a test of two numbers goes both ways
same_either : (a b : ℕ) → (a == b) ≡ (b == a)
same_either a b =
    elim (cases_Bool (a == b)) as (λ x. (a == b) ≡ (b == a))
    [ inl e ↦ e ∙ sym (eq-eqb b a (sym (eqb-true a b e))) | inr e ↦ e ∙ sym (ne_eqb b a (λ same. true≢false (sym (eq-eqb a b (sym same)) ∙ e))) ]

some_found : (ty : ℕ) (list : List ℕ) → is_some (find (λ above. above == ty) list) ≡ list_any (nat_eq ty) list
some_found ty [] = refl
some_found ty (a ∷ more) =
    ap (λ b. is_some (cond b (Some a) (find (λ above. above == ty) more))) (same_either a ty)
    ∙ elim (ty == a) as (λ b. is_some (cond b (Some a) (find (λ above. above == ty) more)) ≡ (b || list_any (nat_eq ty) more)) [ true ↦ refl | false ↦ some_found ty more ]

above_found : (ty : ℕ) (o : Option TypeDef) → is_some (find (λ above. above == ty) (option_map_or (λ (t : TypeDef). t.above) o [])) ≡ option_map_or (has_supertype ty) o false
unfolding has_supertype
above_found ty None = refl
above_found ty (Some t) = some_found ty t.above

module _ (core : TypedProgram) where
  pub same_of_type : {A : Type 0} (see : _) (other : A) (ty : ℕ) → program.of_type (program_of core) see other ty ≡ of_type (rows_of core) (λ t. see (type_row t)) other ty
  same_of_type see other ty = ap (λ o. option_map_or see o other) (slice_get-map type_row core.types ty) ∙ map_or_map type_row see other (slice_get core.types ty)

  pub same_abstract : (ty : ℕ) → program.is_abstract (program_of core) ty ≡ is_abstract (rows_of core) ty
  same_abstract ty = same_of_type (λ t. program.is_abstract_kind t.kind) false ty ∙ ap (λ see. option_map_or see (slice_get core.types ty) false) (λ i t. same_abstract_kind t.kind i)

  pub same_immutable : (ty : ℕ) → program.is_immutable (program_of core) ty ≡ is_immutable (rows_of core) ty
  same_immutable ty = same_of_type (λ t. program.is_immutable_kind t.kind) false ty ∙ ap (λ see. option_map_or see (slice_get core.types ty) false) (λ i t. same_immutable_kind t.kind i)

  pub same_attributes : (ty : ℕ) → program.of_type (program_of core) (λ t. t.attrs) [] ty ≡ attributes (rows_of core) ty
  same_attributes ty = same_of_type (λ t. t.attrs) [] ty

  pub same_element : (ty : ℕ) → program.of_type (program_of core) (λ t. t.elem) None ty ≡ element_of (rows_of core) ty
  same_element ty = same_of_type (λ t. t.elem) None ty

  pub same_holds : (ty other : ℕ) → program.is_supertype (program_of core) ty other ≡ is_supertype (rows_of core) ty other
  same_holds ty other =
      ap (λ b. ty == other || b) (ap (λ list. is_some (find (λ above. above == ty) list)) (same_of_type (λ t. t.above) [] other) ∙ above_found ty (slice_get core.types other))

-- ---- a type of the program

pub some_that : {A : Type 0} (see : A → Bool) (o : Option A) → option_map_or see o false ≡ true → (a : A) × (o ≡ Some a) × (see a ≡ true)
some_that see None h = absurd (true≢false (sym h))
some_that see (Some a) h = (a, refl, h)

none_is_not : {A : Type 0} (o : Option A) → is_none o ≡ true → not (is_some o) ≡ true
none_is_not None h = refl
none_is_not (Some a) h = h

two_ints : (list : List ℕ) → are_two_ints list ≡ true → list ≡ int_type ∷ int_type ∷ []
two_ints [] h = absurd (true≢false (sym h))
two_ints (a ∷ []) h = absurd (true≢false (sym h))
two_ints (a ∷ b ∷ c ∷ more) h = absurd (true≢false (sym h))
two_ints (a ∷ b ∷ []) h = ap₂ (λ x y. x ∷ y ∷ []) (eqb-true a int_type (first_of _ _ h)) (eqb-true b int_type (second_of _ _ h))

-- ---- the types that each program has

module _ {w : Rows} {number : ℕ} (well : AreWellTyped w number) where
  given_from_fault : (is_plain_reference w fault_type && (has_fault_attributes w && is_strict_supertype w ob_type fault_type)) ≡ true
  given_from_fault =
      second_of (has_no_attributes w str_type) _ (second_of (is_plain_reference w str_type) _ (second_of (is_plain_immutable w char_type) _
      (second_of (is_plain_immutable w int_type) _ (second_of (is_plain_immutable w bool_type) _ (second_of (is_abstract w ob_type) _ well.given)))))

  pub has_int_attributes : attributes w fault_type ≡ int_type ∷ int_type ∷ []
  has_int_attributes =
      let found = some_that (λ (t : TypeDef). are_two_ints t.attrs) (slice_get w.types fault_type) (first_of _ _ (second_of _ _ given_from_fault)) in
      ap (λ o. option_map_or (λ (t : TypeDef). t.attrs) o []) found.1 ∙ two_ints found.0.attrs found.2

  pub fault_is_object : has_objects w fault_type ≡ true
  fault_is_object = and_from _ _ (first_of _ _ (first_of _ _ given_from_fault)) (and_from _ _ (none_is_not _ (first_of _ _ (second_of _ _ (first_of _ _ given_from_fault)))) refl)

  pub fault_is_below : is_supertype w ob_type fault_type ≡ true
  fault_is_below = second_of _ _ (second_of _ _ given_from_fault)
