-- The canonical forms of the values of the types that each program has.
use Rattle.std.proofs.Common.{◌≡◌, ℕ, Bool, true, false, not, ◌&&◌, ◌==◌, ℤ, List, [], Some, is_some, refl, sym, ap, subst, ◌∙◌, true≢false}
use Rattle.std.proofs.lemmas.Bool.{eq-eqb}
use Rattle.sa_typing.specs.Rows.{Rows, has_objects, is_immutable, is_reference, call_type_at}
use Rattle.sa_typing.specs.Builtins.{bool_type, char_type, int_type, str_type}
use Rattle.sa_semantics.specs.Program.{Program}
use Rattle.sa_semantics.specs.Value.{Value, Void, Int, Truth, Char, Text, Ref, Imm, Bound, Boxed, as_text}
use Rattle.sa_semantics.specs.Calls.{is_unboxed}
use Rattle.sa_type_safety.specs.Typing.{ObjectType, HasType, is_written}
use Rattle.sa_type_safety.proofs.Facts.{first_of, second_of}
use Rattle.sa_type_safety.proofs.ProgramFacts.{ProgramFacts}
use Rattle.sa_type_safety.proofs.Passing.{above_loose, held_alone, holds_above}
use Rattle.sa_type_safety.proofs.Dynamic.{held_plain}

module _ {w : Rows} {p : Program} (k : ProgramFacts w p) where
  -- ---- an immutable type is a supertype of itself alone

  module _ (ks : List ObjectType) (ty : ℕ) (fixed : is_immutable w ty ≡ true) where
    not_void : HasType w ks Void ty → ⊥
    not_void h = true≢false (sym fixed ∙ h)

    not_text : (bytes : List ℕ) → HasType w ks (Text bytes) ty → ⊥
    not_text bytes h = true≢false (sym fixed ∙ subst (λ n. is_immutable w n ≡ false) (sym (held_alone k ty str_type h fixed)) k.str_loose)

    not_ref : (number : ℕ) → HasType w ks (Ref number) ty → ⊥
    not_ref number h = true≢false (sym fixed ∙ subst (λ n. is_immutable w n ≡ false) (sym (held_alone k ty h.0 h.3 fixed)) (k.object_plain h.0 h.2).2)

    not_bound : (number : ℕ) → HasType w ks (Bound number) ty → ⊥
    not_bound number h = true≢false (sym fixed ∙ subst (λ n. is_immutable w n ≡ false) (sym (held_alone k ty h.0 h.4 fixed)) (k.bound_plain h.0 h.3).1)

    not_wide : (v : Value) → HasType w ks (Boxed v) ty → ⊥
    not_wide v h = true≢false (sym fixed ∙ above_loose k ty h.0 h.3)

    -- a value of an immutable class isn't boxed
    pub raw_is : (v : Value) → HasType w ks v ty → is_unboxed ty v ≡ true
    raw_is Void h = absurd (not_void h)
    raw_is (Int z) h = eq-eqb int_type ty (sym h)
    raw_is (Truth b) h = eq-eqb bool_type ty (sym h)
    raw_is (Char byte) h = eq-eqb char_type ty (sym h)
    raw_is (Text bytes) h = absurd (not_text bytes h)
    raw_is (Ref number) h = absurd (not_ref number h)
    raw_is (Imm own inside) h = eq-eqb own ty h.0
    raw_is (Bound number) h = absurd (not_bound number h)
    raw_is (Boxed v) h = absurd (not_wide v h)

  -- a written class is none of these
  not_written : (own ty : ℕ) → own ≡ ty → is_written w own ≡ true → (is_written w ty ≡ false) → ⊥
  not_written own ty e h n = true≢false (sym (subst (λ m. is_written w m ≡ true) e h) ∙ n)

  written_not : (ty : ℕ) → (not (ty == bool_type) && (not (ty == int_type) && not (ty == char_type))) ≡ false → (b : Bool) → (b && (not (ty == bool_type) && (not (ty == int_type) && not (ty == char_type)))) ≡ false
  written_not ty e true = e
  written_not ty e false = refl

  differ : (a b : ℕ) → a ≡ b → (a == b) ≡ false → ⊥
  differ a b e n = true≢false (sym (eq-eqb a b e) ∙ n)

  -- ---- INT, BOOL, CHAR and STR

  pub int_form : (ks : List ObjectType) (v : Value) → HasType w ks v int_type → (z : ℤ) × (v ≡ Int z)
  int_form ks Void h = absurd (not_void ks int_type k.int_immutable h)
  int_form ks (Int z) h = (z, refl)
  int_form ks (Truth b) h = absurd (differ int_type bool_type h refl)
  int_form ks (Char byte) h = absurd (differ int_type char_type h refl)
  int_form ks (Text bytes) h = absurd (not_text ks int_type k.int_immutable bytes h)
  int_form ks (Ref number) h = absurd (not_ref ks int_type k.int_immutable number h)
  int_form ks (Imm own inside) h = absurd (not_written own int_type h.0 h.1 (written_not int_type refl (is_immutable w int_type)))
  int_form ks (Bound number) h = absurd (not_bound ks int_type k.int_immutable number h)
  int_form ks (Boxed v) h = absurd (not_wide ks int_type k.int_immutable v h)

  pub truth_form : (ks : List ObjectType) (v : Value) → HasType w ks v bool_type → (b : Bool) × (v ≡ Truth b)
  truth_form ks Void h = absurd (not_void ks bool_type k.bool_immutable h)
  truth_form ks (Int z) h = absurd (differ bool_type int_type h refl)
  truth_form ks (Truth b) h = (b, refl)
  truth_form ks (Char byte) h = absurd (differ bool_type char_type h refl)
  truth_form ks (Text bytes) h = absurd (not_text ks bool_type k.bool_immutable bytes h)
  truth_form ks (Ref number) h = absurd (not_ref ks bool_type k.bool_immutable number h)
  truth_form ks (Imm own inside) h = absurd (not_written own bool_type h.0 h.1 (written_not bool_type refl (is_immutable w bool_type)))
  truth_form ks (Bound number) h = absurd (not_bound ks bool_type k.bool_immutable number h)
  truth_form ks (Boxed v) h = absurd (not_wide ks bool_type k.bool_immutable v h)

  pub char_form : (ks : List ObjectType) (v : Value) → HasType w ks v char_type → (byte : ℕ) × (v ≡ Char byte)
  char_form ks Void h = absurd (not_void ks char_type k.char_immutable h)
  char_form ks (Int z) h = absurd (differ char_type int_type h refl)
  char_form ks (Truth b) h = absurd (differ char_type bool_type h refl)
  char_form ks (Char byte) h = (byte, refl)
  char_form ks (Text bytes) h = absurd (not_text ks char_type k.char_immutable bytes h)
  char_form ks (Ref number) h = absurd (not_ref ks char_type k.char_immutable number h)
  char_form ks (Imm own inside) h = absurd (not_written own char_type h.0 h.1 (written_not char_type refl (is_immutable w char_type)))
  char_form ks (Bound number) h = absurd (not_bound ks char_type k.char_immutable number h)
  char_form ks (Boxed v) h = absurd (not_wide ks char_type k.char_immutable v h)

  -- the bytes of a text, none where it is void
  pub text_form : (ks : List ObjectType) (v : Value) → HasType w ks v str_type → (bytes : List ℕ) × (as_text v ≡ Some bytes)
  text_form ks Void h = ([], refl)
  text_form ks (Int z) h = absurd (differ str_type int_type h refl)
  text_form ks (Truth b) h = absurd (differ str_type bool_type h refl)
  text_form ks (Char byte) h = absurd (differ str_type char_type h refl)
  text_form ks (Text bytes) h = (bytes, refl)
  text_form ks (Ref number) h =
      let same : str_type ≡ h.0 = held_plain k str_type h.0 k.str_plain.0 k.str_plain.1 h.3 in
      let is : has_objects w str_type ≡ true = subst (λ n. has_objects w n ≡ true) (sym same) h.2 in
      absurd (true≢false (sym (second_of (not (is_some (call_type_at w.bound str_type))) false (second_of (is_reference w str_type) _ is))))
  text_form ks (Imm own inside) h = absurd (true≢false (sym (subst (λ n. is_immutable w n ≡ true) h.0 (first_of (is_immutable w own) _ h.1)) ∙ k.str_loose))
  text_form ks (Bound number) h =
      let same : str_type ≡ h.0 = held_plain k str_type h.0 k.str_plain.0 k.str_plain.1 h.4 in
      absurd (true≢false (sym (subst (λ n. is_some (call_type_at w.bound n) ≡ true) (sym same) h.3) ∙ ap is_some k.str_plain.1))
  text_form ks (Boxed v) h =
      let same : str_type ≡ h.0 = held_plain k str_type h.0 k.str_plain.0 k.str_plain.1 (holds_above k str_type h.0 h.3) in
      absurd (true≢false (sym (subst (λ n. is_immutable w n ≡ true) (sym same) h.2) ∙ k.str_loose))
