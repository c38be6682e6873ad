-- Values of classes whose objects have elements.
use Rattle.std.proofs.Common.{◌≡◌, ℕ, zero, suc, ◌<◌, ◌⊎◌, inl, inr, Bool, true, false, not, ◌&&◌, ◌||◌, ◌==◌, List, [], ◌∷◌, length, take, Option, Some, None, slice_get, option_map, option_and_then, is_some, refl, sym, ap, subst, ◌∙◌, true≢false, eqb-true, arith}
use Rattle.std.specs.Prelude.{ℤ, pos, negsuc, nat_le, int_le}
use Rattle.std.specs.Option.{option_map_or}
use Rattle.std.proofs.lemmas.Bool.{and_from, leb-false}
use Rattle.sa_typed.specs.declared.program.TypeDef.{TypeDef}
use Rattle.sa_typing.specs.Rows.{Rows, has_array, has_objects, is_supertype, is_abstract, is_immutable, is_reference, is_reference_kind, call_type_at}
use Rattle.sa_typing.specs.Builtins.{bool_type, char_type, int_type, ob_type, str_type}
use Rattle.sa_typing.specs.Features.{are_types, is_type_or_none}
use Rattle.sa_typing.specs.Types.{has_layout, fits_kind, is_plain_immutable, is_plain_reference}
use Rattle.sa_semantics.specs.Program.{Program}
use Rattle.sa_semantics.specs.Value.{Value, Void, Int, Truth, Char, Text, Ref, Imm, Bound, Boxed, as_char}
use Rattle.sa_semantics.specs.Builtin.{bytes_of, is_index, index_of}
use Rattle.sa_type_safety.specs.Typing.{Each, ObjectType, HasType}
use Rattle.sa_type_safety.proofs.Facts as facts
use Rattle.sa_type_safety.proofs.Facts.{first_of, second_of, not_true}
use Rattle.sa_type_safety.proofs.ProgramFacts.{ProgramFacts}
use Rattle.sa_type_safety.proofs.Passing.{holds_above}
use Rattle.sa_type_safety.proofs.Dynamic.{held_plain}
use Rattle.sa_type_safety.proofs.Forms.{char_form}

-- ---- indices of lists

there_at : {A : Type 0} (list : List A) (m : ℕ) → m < length list → (a : A) × (slice_get list m ≡ Some a)
there_at [] m h = absurd (omega (arith, h))
there_at (a ∷ list) zero h = (a, refl)
there_at (a ∷ list) (suc m) h = there_at list m (omega (arith, h))

not_same : (a b : Bool) → a ≡ true → not (a && b) ≡ true → b ≡ false
not_same true b e h = not_true b h
not_same false b e h = absurd (true≢false (sym e))

below : (z : ℤ) (n : ℕ) → is_index z n ≡ true → index_of z < n
below (pos m) n h =
    let between = first_of (int_le (pos 0) (pos m) && int_le (pos m) (pos n)) _ h in
    let low : nat_le m n ≡ true = second_of (int_le (pos 0) (pos m)) (int_le (pos m) (pos n)) between in
    let apart : nat_le n m ≡ false = not_same (nat_le m n) (nat_le n m) low (second_of (int_le (pos 0) (pos m) && int_le (pos m) (pos n)) _ h) in
    omega (arith, leb-false n m apart)
below (negsuc m) n h = absurd (true≢false (sym h))

-- a list has an element at a number that is an index of it
pub placed : {A : Type 0} (list : List A) (z : ℤ) → is_index z (length list) ≡ true → (a : A) × (slice_get list (index_of z) ≡ Some a)
placed list z h = there_at list (index_of z) (below z (length list) h)

pub each_take : {A : Type 0} (P : A → Type 0) (n : ℕ) (list : List A) → Each P list → Each P (take n list)
each_take P zero [] h = tt
each_take P zero (a ∷ list) h = tt
each_take P (suc n) [] h = tt
each_take P (suc n) (a ∷ list) h = (h.0, each_take P n list h.1)

-- ---- classes with elements

-- these are no bound types
pub record ArrayFacts (w : Rows) : Type 0 where
  pub array_unbound : (ty : ℕ) → has_array w ty ≡ true → call_type_at w.bound ty ≡ None

-- what the facts of the program say of them
pub array_facts : {w : Rows} {p : Program} → ProgramFacts w p → ArrayFacts w
array_facts k = record { array_unbound = k.array_unbound }

right_one : (a b : Bool) → a ≡ true → (not a || b) ≡ true → b ≡ true
right_one true b e h = h
right_one false b e h = absurd (true≢false (sym e))

module _ {w : Rows} {p : Program} (k : ProgramFacts w p) where
  str_bare : has_array w str_type ≡ false
  str_bare =
      not_true (has_array w str_type) (second_of _ _ (second_of (is_reference w str_type) _ (first_of (is_plain_reference w str_type) _ (second_of (is_plain_immutable w char_type) _
      (second_of (is_plain_immutable w int_type) _ (second_of (is_plain_immutable w bool_type) _ (second_of (is_abstract w ob_type) _ k.well.given)))))))

  array_reference : (ty : ℕ) → has_array w ty ≡ true → is_reference w ty ≡ true
  array_reference ty h =
      let found = facts.some_that (λ (t : TypeDef). t.array) (slice_get w.types ty) h in
      let t = found.0 in
      let laid = first_of (has_layout w t) _ (second_of (fits_kind w ty t) _ (facts.type_at k.well ty t found.1)) in
      let after = second_of (is_type_or_none w t.elem) _ (second_of (are_types w t.attrs) _ (second_of (t.slots == length t.attrs) _ laid)) in
      ap (λ o. option_map_or (λ (i : TypeDef). is_reference_kind i.kind) o false) found.1 ∙ right_one t.array (is_reference_kind t.kind) found.2 (second_of _ _ after)

  not_str : (ty : ℕ) → has_array w ty ≡ true → (b : Bool) → (ty == 6) ≡ b → not b ≡ true
  not_str ty h true e = absurd (true≢false (sym h ∙ ap (has_array w) (eqb-true ty 6 e) ∙ str_bare))
  not_str ty h false e = refl

  none_not : {A : Type 0} (o : Option A) → o ≡ None → not (is_some o) ≡ true
  none_not o e = ap (λ q. not (is_some q)) e

  pub array_objects : ArrayFacts w → (ty : ℕ) → has_array w ty ≡ true → has_objects w ty ≡ true
  array_objects facts ty h =
      and_from (is_reference w ty) _ (array_reference ty h) (and_from (not (is_some (call_type_at w.bound ty))) _ (none_not (call_type_at w.bound ty) (facts.array_unbound ty h)) (not_str ty h (ty == 6) refl))

  module _ (facts : ArrayFacts w) (ks : List ObjectType) (ty : ℕ) (a : has_array w ty ≡ true) where
    plain_array : (is_abstract w ty ≡ false) × (call_type_at w.bound ty ≡ None) × (is_immutable w ty ≡ false)
    plain_array = k.object_plain ty (array_objects facts ty a)

    never_fixed : (own : ℕ) → ty ≡ own → is_immutable w own ≡ true → ⊥
    never_fixed own e i = true≢false (sym i ∙ subst (λ n. is_immutable w n ≡ false) e plain_array.2)

    held_same : (own : ℕ) → is_supertype w ty own ≡ true → ty ≡ own
    held_same own e = held_plain k ty own plain_array.0 plain_array.1 e

    -- void, or an object of the class
    abbrev pub IsArray : Value → Type 0
    IsArray v = (v ≡ Void) ⊎ ((number : ℕ) × (v ≡ Ref number) × (slice_get ks number ≡ Some (record { ty = ty; binding = None })))

    pub array_form : (v : Value) → HasType w ks v ty → IsArray v
    array_form Void h = inl refl
    array_form (Int z) h = absurd (never_fixed int_type h k.int_immutable)
    array_form (Truth b) h = absurd (never_fixed bool_type h k.bool_immutable)
    array_form (Char byte) h = absurd (never_fixed char_type h k.char_immutable)
    array_form (Text bytes) h = absurd (true≢false (sym a ∙ ap (has_array w) (held_same str_type h) ∙ str_bare))
    array_form (Ref number) h = inr (number, refl, subst (λ n. slice_get ks number ≡ Some (record { ty = n; binding = None })) (sym (held_same h.0 h.3)) h.1)
    array_form (Imm own inside) h = absurd (never_fixed own (sym h.0) (first_of (is_immutable w own) _ h.1))
    array_form (Bound number) h =
        absurd (true≢false (sym (subst (λ n. is_some (call_type_at w.bound n) ≡ true) (sym (held_same h.0 h.4)) h.3) ∙ ap is_some plain_array.1))
    array_form (Boxed v) h = absurd (never_fixed h.0 (held_same h.0 (holds_above k ty h.0 h.3)) h.2)

  -- ---- elements that are characters

  pub bytes_seen : (ks : List ObjectType) (elements : List Value) → Each (λ v. HasType w ks v char_type) elements → (bytes : List ℕ) × (bytes_of elements ≡ Some bytes)
  bytes_seen ks [] h = ([], refl)
  bytes_seen ks (v ∷ more) h =
      let c = char_form k ks v h.0 in
      let rest = bytes_seen ks more h.1 in
      (c.0 ∷ rest.0, ap (λ u. option_and_then (λ byte. option_map (λ bytes. byte ∷ bytes) (bytes_of more)) (as_char u)) c.1 ∙ ap (option_map (λ bytes. c.0 ∷ bytes)) rest.1)
