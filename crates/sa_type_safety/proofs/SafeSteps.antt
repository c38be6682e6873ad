-- The steps on a state are safe.
use Rattle.std.proofs.Common.{◌≡◌, ℕ, zero, suc, true, List, [], ◌∷◌, ◌++◌, map, length, set, Option, Some, None, slice_get, refl, sym, subst}
use Rattle.std.proofs.lemmas.Bool.{lt-ltb}
use Rattle.std.proofs.lemmas.Option.{same_Some, none-some, slice_get_within}
use Rattle.std.specs.Prelude.{nat_lt}
use Rattle.sa_ast.specs.declared.fault_kind.FaultKind.{FaultKind}
use Rattle.sa_ast.specs.declared.pos.Pos.{Pos}
use Rattle.sa_typing.specs.Rows.{Rows}
use Rattle.sa_typing.specs.Builtins.{fault_type, str_type}
use Rattle.sa_typing.specs.WellTyped.{AreWellTyped}
use Rattle.sa_semantics.specs.Value.{Value, Text}
use Rattle.sa_semantics.specs.Program.{Program}
use Rattle.sa_semantics.specs.State.{Object, Activation}
use Rattle.sa_semantics.specs.Steps.{spend, charge, add_object, object_at, set_object, fault, fault_object, raise_new, new_text, put_byte, put_bytes, put_text, got, get_byte, read, write, checked_depth, checked_live}
use Rattle.sa_type_safety.specs.Typing.{ObjectType, object_type_of, heap_typing, HeapExtends, HasType, HaveTypes, ObjectWell}
use Rattle.sa_type_safety.proofs.Worlds.{known_later, each_that, each_append, each_get, each_set, map_append_one, get_object, set_known, type_later, types_later, object_later, activation_later}
use Rattle.sa_type_safety.proofs.Facts.{has_int_attributes, fault_is_object, fault_is_below}
use Rattle.sa_type_safety.proofs.Safe.{Point, give, safe, Safe, Any, extends_refl, extends_trans, safe_then, safe_before, safe_looking, safe_change, safe_if, safe_turn, safe_pure, safe_stop, safe_some, safe_placed}

-- ---- values of types, one by one

module _ (w : Rows) (ks : List ObjectType) where
  pub types_get : (values : List Value) (types : List ℕ) (i ty : ℕ) → HaveTypes w ks values types → slice_get types i ≡ Some ty → (v : Value) × (slice_get values i ≡ Some v) × HasType w ks v ty
  types_get [] [] i ty h e = absurd (none-some ty e)
  types_get [] (u ∷ types) i ty h e = absurd h
  types_get (v ∷ values) [] i ty h e = absurd h
  types_get (v ∷ values) (u ∷ types) zero ty h e = (v, refl, subst (HasType w ks v) (same_Some u ty e) h.0)
  types_get (v ∷ values) (u ∷ types) (suc i) ty h e = types_get values types i ty h.1 e

  pub types_set : (values : List Value) (types : List ℕ) (i ty : ℕ) (v : Value) → HaveTypes w ks values types → slice_get types i ≡ Some ty → HasType w ks v ty → HaveTypes w ks (set values i v) types
  types_set [] [] i ty v h e is = h
  types_set [] (u ∷ types) i ty v h e is = h
  types_set (a ∷ values) [] i ty v h e is = absurd h
  types_set (a ∷ values) (u ∷ types) zero ty v h e is = (subst (HasType w ks v) (sym (same_Some u ty e)) is, h.1)
  types_set (a ∷ values) (u ∷ types) (suc i) ty v h e is = (h.0, types_set values types i ty v h.1 e is)

  pub types_within : (values : List Value) (types : List ℕ) (i ty : ℕ) → HaveTypes w ks values types → slice_get types i ≡ Some ty → nat_lt i (length values) ≡ true
  types_within values types i ty h e = let found = types_get values types i ty h e in lt-ltb i (length values) (slice_get_within values i found.0 found.1)

get_last : (objects : List Object) (o : Object) → slice_get (map object_type_of (objects ++ o ∷ [])) (length objects) ≡ Some (object_type_of o)
get_last [] o = refl
get_last (a ∷ more) o = get_last more o

-- ---- steps

module _ {w : Rows} {number : ℕ} (well : AreWellTyped w number) where
  pub safe_spend : {base : List ObjectType} {x : Point} (n : ℕ) → Safe w base x (Unit {0}) Any (spend n)
  safe_spend zero = safe_pure tt (λ ks e. tt)
  safe_spend (suc n) = safe_turn (safe_spend n)

  pub safe_charge : {base : List ObjectType} {x : Point} (at : Pos) (size : ℕ) → Safe w base x (Unit {0}) Any (charge at size)
  safe_charge at size =
      safe_looking _ (λ s g is. safe_if _
      (λ e. safe_change _ (λ t h it. (extends_refl _, record { objects = it.objects; shareds = it.shareds; here = it.here })))
      (λ e. safe_stop _ (λ t h it. tt)))

  -- a new object, whose number is in the heap typing
  pub safe_add_object : {base : List ObjectType} {x : Point} (o : Object) → ((ks : List ObjectType) → HeapExtends base ks → ObjectWell w ks o) → Safe w base x ℕ (λ ks number. slice_get ks number ≡ Some (object_type_of o)) (add_object o)
  safe_add_object o made = safe (λ s g is.
      let e : HeapExtends (heap_typing s) (map object_type_of (s.objects ++ o ∷ [])) = record { more = object_type_of o ∷ []; is = map_append_one s.objects o } in
      give _ _ e
      (record {
        objects = each_append (ObjectWell w _) s.objects (o ∷ []) (each_that s.objects (object_later w e) is.objects) (made _ (extends_trans g e), tt);
        shareds = types_later w e _ _ is.shareds;
        here = activation_later w e is.here;
      })
      (get_last s.objects o))

  -- an object in the heap typing
  pub safe_object_at : {base : List ObjectType} {x : Point} (number : ℕ) (k : ObjectType) → slice_get base number ≡ Some k → Safe w base x Object (λ ks o. (object_type_of o ≡ k) × ObjectWell w ks o) (object_at number)
  safe_object_at number k e =
      safe_looking _ (λ s g is. let found = get_object s.objects number k (known_later g number k e) in
      safe_some found.0 found.1 (λ ks h. (found.2, object_later w h found.0 (each_get (ObjectWell w (heap_typing s)) s.objects number found.0 found.1 is.objects))))

  -- another object of the same type in place of one in the heap typing
  pub safe_set_object : {base : List ObjectType} {x : Point} (number : ℕ) (o : Object) → slice_get base number ≡ Some (object_type_of o) → ((ks : List ObjectType) → HeapExtends base ks → ObjectWell w ks o) → Safe w base x (Unit {0}) Any (set_object number o)
  safe_set_object number o e made = safe_change _ (λ s g is.
      let found = get_object s.objects number (object_type_of o) (known_later g number _ e) in
      let same : map object_type_of (set s.objects number o) ≡ heap_typing s = set_known s.objects number found.0 o found.1 (sym found.2) in
      let h : HeapExtends (heap_typing s) (map object_type_of (set s.objects number o)) = subst (HeapExtends (heap_typing s)) (sym same) (extends_refl (heap_typing s)) in (
        h,
        record {
          objects = each_set (ObjectWell w _) s.objects number o (made _ (extends_trans g h)) (each_that s.objects (object_later w h) is.objects);
          shareds = types_later w h _ _ is.shareds;
          here = activation_later w h is.here;
        },
      ))

  -- ---- faults

  fault_well : (p : Program) (kind : FaultKind) (at : Pos) (ks : List ObjectType) → ObjectWell w ks (fault_object p kind at)
  fault_well p kind at ks = ((fault_is_object well, subst (HaveTypes w ks (fault_object p kind at).fields) (sym (has_int_attributes well)) (refl, (refl, tt))), tt)

  safe_raise_new : {base : List ObjectType} {x : Point} {A : Type 0} {P : List ObjectType → A → Type 0} (p : Program) (kind : FaultKind) (at : Pos) → Safe w base x A P (raise_new (fault_object p kind at) kind at)
  safe_raise_new p kind at =
      safe_before (safe_change _ (λ s g is. (extends_refl _, record { objects = is.objects; shareds = is.shareds; here = is.here })))
      (λ ks e. safe_then (safe_add_object _ (λ js h. fault_well p kind at js))
      (λ js n h is. safe_stop _ (λ t i it. (it, (fault_type, known_later i n _ is, fault_is_object well, fault_is_below well)))))

  pub safe_fault : {base : List ObjectType} {x : Point} {A : Type 0} {P : List ObjectType → A → Type 0} (p : Program) (kind : FaultKind) (at : Pos) → Safe w base x A P (fault p kind at)
  safe_fault p kind at = safe_looking _ (λ s g is. safe_if _ (λ e. safe_raise_new p kind at) (λ e. safe_stop _ (λ t h it. tt)))

  -- ---- texts, output and input

  pub safe_new_text : {base : List ObjectType} {x : Point} (at : Pos) (bytes : List ℕ) → Safe w base x Value (λ ks v. HasType w ks v str_type) (new_text at bytes)
  safe_new_text at bytes = safe_before (safe_charge at _) (λ ks e. safe_pure (Text bytes) (λ js h. refl))

  pub safe_put_byte : {base : List ObjectType} {x : Point} (byte : ℕ) → Safe w base x (Unit {0}) Any (put_byte byte)
  safe_put_byte byte = safe_change _ (λ s g is. (extends_refl _, record { objects = is.objects; shareds = is.shareds; here = is.here }))

  pub safe_put_bytes : {base : List ObjectType} {x : Point} (bytes : List ℕ) → Safe w base x (Unit {0}) Any (put_bytes bytes)
  safe_put_bytes [] = safe_pure tt (λ ks e. tt)
  safe_put_bytes (byte ∷ more) = safe_before (safe_put_byte byte) (λ ks e. safe_put_bytes more)

  pub safe_put_text : {base : List ObjectType} {x : Point} (paid : ℕ) (bytes : List ℕ) → Safe w base x (Unit {0}) Any (put_text paid bytes)
  safe_put_text paid [] = safe_pure tt (λ ks e. tt)
  safe_put_text zero (byte ∷ more) = safe_turn (safe_before (safe_put_byte byte) (λ ks e. safe_put_text 7 more))
  safe_put_text (suc paid) (byte ∷ more) = safe_before (safe_put_byte byte) (λ ks e. safe_put_text paid more)

  safe_got : {base : List ObjectType} {x : Point} (bytes : List ℕ) (left : Option ℕ) → Safe w base x _ Any (got bytes left)
  safe_got (byte ∷ more) left = safe_before (safe_change _ (λ s g is. (extends_refl _, record { objects = is.objects; shareds = is.shareds; here = is.here }))) (λ ks e. safe_pure _ (λ js h. tt))
  safe_got [] None = safe_pure _ (λ js h. tt)
  safe_got [] (Some zero) = safe_stop _ (λ t h it. tt)
  safe_got [] (Some (suc left)) = safe_before (safe_change _ (λ s g is. (extends_refl _, record { objects = is.objects; shareds = is.shareds; here = is.here }))) (λ ks e. safe_pure _ (λ js h. tt))

  pub safe_get_byte : {base : List ObjectType} {x : Point} → Safe w base x _ Any get_byte
  safe_get_byte = safe_looking _ (λ s g is. safe_got _ _)

  -- ---- variables

  pub safe_read : {base : List ObjectType} {x : Point} (var ty : ℕ) → slice_get x.local.frame.vars var ≡ Some ty → Safe w base x Value (λ ks v. HasType w ks v ty) (read var)
  safe_read var ty e =
      safe_looking _ (λ s g is. let found = types_get w (heap_typing s) _ _ var ty is.here.variables e in safe_some found.0 found.1 (λ ks h. type_later w h found.0 ty found.2))

  pub safe_write : {base : List ObjectType} {x : Point} (var ty : ℕ) (v : Value) → slice_get x.local.frame.vars var ≡ Some ty → HasType w base v ty → Safe w base x (Unit {0}) Any (write var v)
  safe_write var ty v e h =
      safe_looking _ (λ s g is. safe_placed _ _ _ _ (types_within w (heap_typing s) _ _ var ty is.here.variables e)
      (safe (λ t i it. give tt _ (extends_refl _) (record {
        objects = it.objects;
        shareds = it.shareds;
        here = record {
          feature = it.here.feature;
          self = it.here.self;
          variables = types_later w i _ _ (types_set w (heap_typing s) _ _ var ty v is.here.variables e (type_later w g v ty h));
          sites = it.here.sites;
          exception = it.here.exception;
        };
      }) tt)))

  pub safe_checked_depth : {base : List ObjectType} {x : Point} (at : Pos) (caller : Activation) → Safe w base x (Unit {0}) Any (checked_depth at caller)
  safe_checked_depth at caller = safe_if _ (λ e. safe_stop _ (λ t h it. tt)) (λ e. safe_pure tt (λ ks h. tt))

  pub safe_checked_live : {base : List ObjectType} {x : Point} (at : Pos) → Safe w base x (Unit {0}) Any (checked_live at)
  safe_checked_live at = safe_looking _ (λ s g is. safe_if _ (λ e. safe_stop _ (λ t h it. tt)) (λ e. safe_pure tt (λ ks h. tt)))
