-- Attributes and shareds are read and set safely.
use Rattle.std.proofs.Common.{◌≡◌, ℕ, true, List, [], ◌∷◌, map, set, Option, Some, None, slice_get, is_some, sym, ap, subst, ◌∙◌, true≢false}
use Rattle.std.proofs.lemmas.Option.{none-some}
use Rattle.sa_ast.specs.declared.fault_kind.FaultKind.TheVariants as fault_kind
use Rattle.sa_ast.specs.declared.pos.Pos.{Pos}
use Rattle.sa_typed.specs.declared.program.TypedShared.{TypedShared}
use Rattle.sa_typing.specs.Rows.{Rows, has_objects, is_immutable, call_type_at}
use Rattle.sa_typing.specs.Builtins.{bool_type, char_type, int_type, str_type}
use Rattle.sa_semantics.specs.Program.{Program}
use Rattle.sa_semantics.specs.Value.{Value, Fields, Void, Int, Truth, Char, Text, Ref, Imm, Bound, Boxed, no_fields, field, fields_of, field_list}
use Rattle.sa_semantics.specs.State.{Object}
use Rattle.sa_semantics.specs.Calls.{attribute, set_attribute, shared, set_shared}
use Rattle.sa_type_safety.specs.Typing.{ObjectType, object_type_of, heap_typing, HasType, AreOf, HaveTypes, FieldsWell, ObjectWell, attributes}
use Rattle.sa_type_safety.proofs.ProgramFacts.{ProgramFacts}
use Rattle.sa_type_safety.proofs.Worlds.{known_later, type_later, types_later, object_later}
use Rattle.sa_type_safety.proofs.Safe.{Point, Safe, Any, safe_then, safe_before, safe_looking, safe_change, safe_some, safe_placed, safe_pure, extends_trans, extends_refl}
use Rattle.sa_type_safety.proofs.SafeSteps.{types_get, types_set, types_within, safe_fault, safe_charge, safe_object_at, safe_set_object}
use Rattle.sa_type_safety.proofs.Passing.{above_loose, holds_above}
use Rattle.sa_type_safety.proofs.Dynamic.{held_plain}

-- ---- the attributes of an immutable value as a list

module _ (w : Rows) (ks : List ObjectType) where
  listed : (inside : Fields) (types : List ℕ) → AreOf w ks inside types → HaveTypes w ks (field_list inside) types
  listed no_fields [] h = tt
  listed no_fields (ty ∷ types) h = h
  listed (field v more) [] h = h
  listed (field v more) (ty ∷ types) h = (h.0, listed more types h.1)

  written : (values : List Value) (types : List ℕ) → HaveTypes w ks values types → AreOf w ks (fields_of values) types
  written [] [] h = tt
  written [] (ty ∷ types) h = h
  written (v ∷ values) [] h = h
  written (v ∷ values) (ty ∷ types) h = (h.0, written values types h.1)

module _ {w : Rows} {p : Program} (k : ProgramFacts w p) where
  no_attribute : {A : Type 0} (ty class a of : ℕ) → attributes w ty ≡ [] → class ≡ ty → slice_get (attributes w class) a ≡ Some of → A
  no_attribute ty class a of none same e = absurd (none-some of (sym (ap (λ list. slice_get list a) (ap (attributes w) same ∙ none)) ∙ e))

  -- ---- what has an attribute is an object or an immutable value, or void

  -- the plain object behind a reference of a class with attributes
  own_object : (ks : List ObjectType) (class a of number : ℕ) → slice_get (attributes w class) a ≡ Some of → HasType w ks (Ref number) class → slice_get ks number ≡ Some (record { ty = class; binding = None })
  own_object ks class a of number e h =
      let plain = k.attributed class a of e in
      subst (λ n. slice_get ks number ≡ Some (record { ty = n; binding = None })) (sym (held_plain k class h.0 plain.0 plain.1 h.3)) h.1

  object_fields : (ks : List ObjectType) (o : Object) (class : ℕ) → object_type_of o ≡ record { ty = class; binding = None } → ObjectWell w ks o → (has_objects w class ≡ true) × HaveTypes w ks o.fields (attributes w class)
  object_fields ks o class e h = subst (λ (n : ObjectType). FieldsWell w ks n.ty n.binding o.fields) e h.0

  is_there : {A : Type 0} (o : Option A) → is_some o ≡ true → o ≡ None → ⊥
  is_there None i e = true≢false (sym i)
  is_there (Some a) i e = none-some a (sym e)

  bound_none : (ks : List ObjectType) (class a of number : ℕ) → slice_get (attributes w class) a ≡ Some of → HasType w ks (Bound number) class → ⊥
  bound_none ks class a of number e h =
      let plain = k.attributed class a of e in
      is_there (call_type_at w.bound h.0) h.3 (ap (call_type_at w.bound) (sym (held_plain k class h.0 plain.0 plain.1 h.4)) ∙ plain.1)

  wide_none : (ks : List ObjectType) (class a of : ℕ) (v : Value) → slice_get (attributes w class) a ≡ Some of → HasType w ks (Boxed v) class → ⊥
  wide_none ks class a of v e h =
      let plain = k.attributed class a of e in
      let same = held_plain k class h.0 plain.0 plain.1 (holds_above k class h.0 h.3) in
      true≢false (sym (subst (λ n. is_immutable w n ≡ true) (sym same) h.2) ∙ above_loose k class h.0 h.3)

  pub safe_attribute : {base : List ObjectType} {x : Point} (at : Pos) (class a of : ℕ) (self : Value) → slice_get (attributes w class) a ≡ Some of → HasType w base self class → Safe w base x Value (λ ks v. HasType w ks v of) (attribute p at a self)
  safe_attribute at class a of Void e h = safe_fault k.well p fault_kind.Void at
  safe_attribute {base} at class a of (Imm named inside) e h =
      let found = types_get w base (field_list inside) (attributes w named) a of (listed w base inside (attributes w named) h.2) (ap (λ n. slice_get (attributes w n) a) h.0 ∙ e) in
      safe_some found.0 found.1 (λ ks f. type_later w f found.0 of found.2)
  safe_attribute {base} at class a of (Ref number) e h =
      safe_then (safe_object_at k.well number _ (own_object _ class a of number e h))
      (λ ks o f found. let got = types_get w ks o.fields (attributes w class) a of (object_fields ks o class found.0 found.1).1 e in
      safe_some got.0 got.1 (λ js g. type_later w g got.0 of got.2))
  safe_attribute at class a of (Int z) e h = no_attribute int_type class a of k.int_plain.2 h e
  safe_attribute at class a of (Truth b) e h = no_attribute bool_type class a of k.bool_plain.2 h e
  safe_attribute at class a of (Char byte) e h = no_attribute char_type class a of k.char_plain.2 h e
  safe_attribute at class a of (Text bytes) e h =
      let plain = k.attributed class a of e in no_attribute str_type class a of k.str_plain.2 (held_plain k class str_type plain.0 plain.1 h) e
  safe_attribute at class a of (Bound number) e h = absurd (bound_none _ class a of number e h)
  safe_attribute at class a of (Boxed v) e h = absurd (wide_none _ class a of v e h)

  -- ---- setting

  pub safe_set_attribute : {base : List ObjectType} {x : Point} (at : Pos) (class a of : ℕ) (v self : Value) → slice_get (attributes w class) a ≡ Some of → HasType w base v of → HasType w base self class → Safe w base x Value (λ ks r. is_immutable w class ≡ true → HasType w ks r class) (set_attribute p at a v self)
  safe_set_attribute at class a of v Void e t h = safe_fault k.well p fault_kind.Void at
  safe_set_attribute {base} at class a of v (Imm named inside) e t h =
      let there : slice_get (attributes w named) a ≡ Some of = ap (λ n. slice_get (attributes w n) a) h.0 ∙ e in
      let are = listed w base inside (attributes w named) h.2 in
      safe_placed _ _ _ _ (types_within w base (field_list inside) (attributes w named) a of are there)
      (safe_before (safe_charge k.well at _)
      (λ ks f. safe_pure _ (λ js g i. (h.0, h.1, written w js _ (attributes w named) (types_later w (extends_trans f g) _ (attributes w named) (types_set w base (field_list inside) (attributes w named) a of v are there t))))))
  safe_set_attribute {base} at class a of v (Ref number) e t h =
      safe_then (safe_object_at k.well number _ (own_object _ class a of number e h))
      (λ ks o f found.
      let are = object_fields ks o class found.0 found.1 in
      safe_placed _ _ _ _ (types_within w ks o.fields (attributes w class) a of are.1 e)
      (safe_before (safe_set_object k.well number (record o { fields = set o.fields a v }) (known_later f number _ (own_object _ class a of number e h) ∙ ap (λ (n : ObjectType). Some n) (sym found.0))
      (λ js g. object_later w g (record o { fields = set o.fields a v })
      (subst (λ (n : ObjectType). FieldsWell w ks n.ty n.binding (set o.fields a v)) (sym found.0) (are.0, types_set w ks o.fields (attributes w class) a of v are.1 e (type_later w f v of t)), found.1.1)))
      (λ js g. safe_pure Void (λ hs i m. absurd (true≢false (sym m ∙ (k.object_plain class are.0).2))))))
  safe_set_attribute at class a of v (Int z) e t h = no_attribute int_type class a of k.int_plain.2 h e
  safe_set_attribute at class a of v (Truth b) e t h = no_attribute bool_type class a of k.bool_plain.2 h e
  safe_set_attribute at class a of v (Char byte) e t h = no_attribute char_type class a of k.char_plain.2 h e
  safe_set_attribute at class a of v (Text bytes) e t h =
      let plain = k.attributed class a of e in no_attribute str_type class a of k.str_plain.2 (held_plain k class str_type plain.0 plain.1 h) e
  safe_set_attribute at class a of v (Bound number) e t h = absurd (bound_none _ class a of number e h)
  safe_set_attribute at class a of v (Boxed u) e t h = absurd (wide_none _ class a of u e h)

  -- ---- shareds

  pub safe_shared : {base : List ObjectType} {x : Point} (n ty : ℕ) → slice_get (map (λ (s : TypedShared). s.ty) w.shareds) n ≡ Some ty → Safe w base x Value (λ ks v. HasType w ks v ty) (shared n)
  safe_shared n ty e =
      safe_looking _ (λ s g is. let found = types_get w (heap_typing s) s.shareds _ n ty is.shareds e in safe_some found.0 found.1 (λ ks f. type_later w f found.0 ty found.2))

  pub safe_set_shared : {base : List ObjectType} {x : Point} (n ty : ℕ) (v : Value) → slice_get (map (λ (s : TypedShared). s.ty) w.shareds) n ≡ Some ty → HasType w base v ty → Safe w base x (Unit {0}) Any (set_shared n v)
  safe_set_shared n ty v e h =
      safe_looking _ (λ s g is. safe_placed _ _ _ _ (types_within w (heap_typing s) s.shareds _ n ty is.shareds e)
      (safe_change _ (λ t f it. (
        extends_refl _,
        record {
          objects = it.objects;
          shareds = types_later w f _ _ (types_set w (heap_typing s) s.shareds _ n ty v is.shareds e (type_later w g v ty h));
          here = it.here;
        },
      ))))
