-- The dynamic types of values, and the forms of values of a type.
use Rattle.std.proofs.Common.{◌≡◌, ℕ, inl, inr, true, false, ◌==◌, List, map, Some, None, slice_get, option_and_then, refl, sym, ap, subst, ◌∙◌, true≢false, eqb-true}
use Rattle.std.proofs.lemmas.Option.{none-some}
use Rattle.sa_typing.specs.Rows.{Rows, is_supertype, is_strict_supertype, is_abstract, is_immutable, call_type_at}
use Rattle.sa_typing.specs.Builtins.{bool_type, char_type, int_type, str_type}
use Rattle.sa_semantics.specs.Program.{Program}
use Rattle.sa_semantics.specs.Value.{Value, Void, Int, Truth, Char, Text, Ref, Imm, Bound, Boxed, is_nothing, unboxed}
use Rattle.sa_semantics.specs.State.{Object}
use Rattle.sa_semantics.specs.Calls.{type_of}
use Rattle.sa_type_safety.specs.Typing.{ObjectType, object_type_of, HasType}
use Rattle.sa_type_safety.proofs.Facts.{first_of, one_of}
use Rattle.sa_type_safety.proofs.ProgramFacts.{ProgramFacts}
use Rattle.sa_type_safety.proofs.Worlds.{get_object}
use Rattle.sa_type_safety.proofs.Passing.{above_loose, holds_itself, holds_above, held_alone}

module _ {w : Rows} {p : Program} (k : ProgramFacts w p) where
  -- a supertype that is neither abstract nor a bound type is the type itself
  pub held_plain : (upper lower : ℕ) → is_abstract w upper ≡ false → call_type_at w.bound upper ≡ None → is_supertype w upper lower ≡ true → upper ≡ lower
  held_plain upper lower a b e =
      elim (one_of (upper == lower) (is_strict_supertype w upper lower) e) as (λ x. upper ≡ lower) [
        | inl same ↦ eqb-true upper lower same
        | inr is ↦ elim (k.above_is upper lower is) as (λ x. upper ≡ lower)
            [ inl c ↦ absurd (true≢false (sym c ∙ a)) | inr c ↦ absurd (none-some c.1 (sym b ∙ c.3)) ]
      ]

  -- ---- the dynamic type of a value

  -- a value that isn't void has a dynamic type, of which the static type is a supertype
  pub record Dynamic (objects : List Object) (ks : List ObjectType) (ty : ℕ) (v : Value) : Type 0 where
    pub own : ℕ
    pub is : type_of objects v ≡ Some own
    pub held : is_supertype w ty own ≡ true
    pub concrete : is_abstract w own ≡ false
    pub inside : HasType w ks (unboxed v) own

  pub known_type : (objects : List Object) (number : ℕ) (n : ObjectType) → slice_get (map object_type_of objects) number ≡ Some n → option_and_then (λ (o : Object). Some o.ty) (slice_get objects number) ≡ Some n.ty
  known_type objects number n e =
      let found = get_object objects number n e in
      ap (option_and_then (λ (o : Object). Some o.ty)) found.1 ∙ ap (λ (m : ObjectType). Some m.ty) found.2

  pub raw_type_is : (objects : List Object) (v : Value) (own : ℕ) → is_immutable w own ≡ true → HasType w (map object_type_of objects) v own → type_of objects v ≡ Some own
  raw_type_is objects Void own i h = absurd (true≢false (sym i ∙ h))
  raw_type_is objects (Int z) own i h = ap (λ n. Some n) (sym h)
  raw_type_is objects (Truth b) own i h = ap (λ n. Some n) (sym h)
  raw_type_is objects (Char byte) own i h = ap (λ n. Some n) (sym h)
  raw_type_is objects (Text bytes) own i h = absurd (true≢false (sym i ∙ subst (λ n. is_immutable w n ≡ false) (sym (held_alone k own str_type h i)) k.str_loose))
  raw_type_is objects (Ref number) own i h = absurd (true≢false (sym i ∙ subst (λ n. is_immutable w n ≡ false) (sym (held_alone k own h.0 h.3 i)) (k.object_plain h.0 h.2).2))
  raw_type_is objects (Imm named inside) own i h = ap (λ n. Some n) h.0
  raw_type_is objects (Bound number) own i h = absurd (true≢false (sym i ∙ subst (λ n. is_immutable w n ≡ false) (sym (held_alone k own h.0 h.4 i)) (k.bound_plain h.0 h.3).1))
  raw_type_is objects (Boxed v) own i h = absurd (true≢false (sym i ∙ above_loose k own h.0 h.3))

  pub dynamic_of : (objects : List Object) (v : Value) (ty : ℕ) → is_nothing v ≡ false → HasType w (map object_type_of objects) v ty → Dynamic objects (map object_type_of objects) ty v
  dynamic_of objects Void ty n h = absurd (true≢false n)
  dynamic_of objects (Int z) ty n h = record { own = int_type; is = refl; held = subst (λ m. is_supertype w m int_type ≡ true) (sym h) (holds_itself k int_type); concrete = k.int_plain.0; inside = refl }
  dynamic_of objects (Truth b) ty n h = record { own = bool_type; is = refl; held = subst (λ m. is_supertype w m bool_type ≡ true) (sym h) (holds_itself k bool_type); concrete = k.bool_plain.0; inside = refl }
  dynamic_of objects (Char byte) ty n h = record { own = char_type; is = refl; held = subst (λ m. is_supertype w m char_type ≡ true) (sym h) (holds_itself k char_type); concrete = k.char_plain.0; inside = refl }
  dynamic_of objects (Text bytes) ty n h = record { own = str_type; is = refl; held = h; concrete = k.str_plain.0; inside = holds_itself k str_type }
  dynamic_of objects (Ref number) ty n h =
      record { own = h.0; is = known_type objects number _ h.1; held = h.3; concrete = (k.object_plain h.0 h.2).0; inside = (h.0, h.1, h.2, holds_itself k h.0) }
  dynamic_of objects (Imm named inside) ty n h =
      record {
        own = named;
        is = refl;
        held = subst (λ m. is_supertype w m named ≡ true) h.0 (holds_itself k named);
        concrete = (k.immutable_plain named (first_of (is_immutable w named) _ h.1)).0;
        inside = (refl, h.1, h.2);
      }
  dynamic_of objects (Bound number) ty n h =
      record { own = h.0; is = known_type objects number _ h.2; held = h.4; concrete = (k.bound_plain h.0 h.3).0; inside = (h.0, h.1, h.2, h.3, holds_itself k h.0) }
  dynamic_of objects (Boxed v) ty n h =
      record { own = h.0; is = raw_type_is objects v h.0 h.2 h.1; held = holds_above k ty h.0 h.3; concrete = (k.immutable_plain h.0 h.2).0; inside = h.1 }
