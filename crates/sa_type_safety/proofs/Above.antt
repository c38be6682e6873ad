-- The supertypes in a well-typed AST: a supertype of a supertype of a type is one of its supertypes, and is abstract or a bound type.
use Rattle.std.proofs.Common.{◌≡◌, ℕ, zero, suc, ◌+◌, ◌≤◌, ◌⊎◌, inl, inr, Bool, true, false, ◌&&◌, ◌==◌, nat_lt, List, [], ◌∷◌, length, Option, Some, None, slice_get, refl, sym, ap, subst, ◌∙◌, true≢false, eqb-true, le_refl, arith}
use Rattle.std.specs.Prelude.{nat_eq}
use Rattle.std.specs.List.{list_any}
use Rattle.std.specs.Option.{option_map_or}
use Rattle.std.specs.Cmp.Lexicographic.{pointwise, bytes_decides}
use Rattle.std.proofs.lemmas.Bool.{cases_Bool, cond-true, cond-false, eq-eqb, or_left, or_right}
use Rattle.sa_typed.specs.declared.program.TypeDef.{TypeDef}
use Rattle.sa_typing.specs.declared.call_type.CallType.{CallType}
use Rattle.sa_typing.specs.Rows.{Rows, has_supertype, is_supertype, is_strict_supertype, is_abstract, call_type_at}
use Rattle.sa_typing.specs.Types.{have_supertypes_in, are_valid_supertypes, both_alike, fits_kind, has_layout, has_next, is_bound_supertype, is_closed, has_supertypes_in, is_next, is_part, is_valid_supertype, makes_up, put_in, rises_from, call_types_alike, well_supertypes}
use Rattle.sa_typing.specs.WellTyped.{AreWellTyped}
use Rattle.sa_type_safety.proofs.Facts.{first_of, second_of, one_of, some_that, type_at}

-- ---- lists of numbers

abbrev pub is_in : ℕ → List ℕ → Bool
is_in a list = list_any (nat_eq a) list

part_in : (whole part : List ℕ) (a : ℕ) → is_part part whole ≡ true → is_in a part ≡ true → is_in a whole ≡ true
part_in whole [] a h i = absurd (true≢false (sym i))
part_in [] (b ∷ part) a h i = absurd (true≢false (sym h))
part_in (c ∷ whole) (b ∷ part) a h i =
    elim (cases_Bool (b == c)) as (λ x. is_in a (c ∷ whole) ≡ true) [
      | inl e ↦ elim (one_of (nat_eq a b) (is_in a part) i) as (λ x. is_in a (c ∷ whole) ≡ true) [
        | inl is ↦ or_left (nat_eq a c) (is_in a whole) (eq-eqb a c (eqb-true a b is ∙ eqb-true b c e))
        | inr is ↦ or_right (nat_eq a c) (is_in a whole) (part_in whole part a (sym (cond-true (b == c) (is_part part whole) (is_part (b ∷ part) whole) e) ∙ h) is)
      ]
      | inr e ↦ or_right (nat_eq a c) (is_in a whole) (part_in whole (b ∷ part) a (sym (cond-false (b == c) (is_part part whole) (is_part (b ∷ part) whole) e) ∙ h) i)
    ]

module _ (n a : ℕ) where
  -- what is in a list with one more number is the number, or in the list
  put_from : (list : List ℕ) → is_in a (put_in n list) ≡ true → (a ≡ n) ⊎ (is_in a list ≡ true)
  put_from [] h =
      elim (one_of (nat_eq a n) false h) as (λ x. (a ≡ n) ⊎ (false ≡ true)) [ inl e ↦ inl (eqb-true a n e) | inr f ↦ inr f ]
  put_from (b ∷ more) h =
      elim (cases_Bool (nat_lt n b)) as (λ x. (a ≡ n) ⊎ (is_in a (b ∷ more) ≡ true)) [
        | inl e ↦ elim (one_of (nat_eq a n) (is_in a (b ∷ more)) (sym (ap (λ list. is_in a list) (cond-true (nat_lt n b) (n ∷ b ∷ more) (b ∷ put_in n more) e)) ∙ h)) as (λ x. (a ≡ n) ⊎ (is_in a (b ∷ more) ≡ true))
            [ inl is ↦ inl (eqb-true a n is) | inr is ↦ inr is ]
        | inr e ↦ elim (one_of (nat_eq a b) (is_in a (put_in n more)) (sym (ap (λ list. is_in a list) (cond-false (nat_lt n b) (n ∷ b ∷ more) (b ∷ put_in n more) e)) ∙ h)) as (λ x. (a ≡ n) ⊎ (is_in a (b ∷ more) ≡ true)) [
          | inl is ↦ inr (or_left (nat_eq a b) (is_in a more) is)
          | inr is ↦ elim (put_from more is) as (λ x. (a ≡ n) ⊎ (is_in a (b ∷ more) ≡ true)) [ inl e ↦ inl e | inr i ↦ inr (or_right (nat_eq a b) (is_in a more) i) ]
        ]
      ]

  -- and these are in it
  put_into : (list : List ℕ) → (a ≡ n) ⊎ (is_in a list ≡ true) → is_in a (put_in n list) ≡ true
  put_into [] (inl e) = or_left (nat_eq a n) false (eq-eqb a n e)
  put_into [] (inr i) = absurd (true≢false (sym i))
  put_into (b ∷ more) i =
      elim (cases_Bool (nat_lt n b)) as (λ x. is_in a (put_in n (b ∷ more)) ≡ true) [
        | inl e ↦ ap (λ list. is_in a list) (cond-true (nat_lt n b) (n ∷ b ∷ more) (b ∷ put_in n more) e) ∙ elim i as (λ x. is_in a (n ∷ b ∷ more) ≡ true)
            [ inl same ↦ or_left (nat_eq a n) (is_in a (b ∷ more)) (eq-eqb a n same) | inr is ↦ or_right (nat_eq a n) (is_in a (b ∷ more)) is ]
        | inr e ↦ ap (λ list. is_in a list) (cond-false (nat_lt n b) (n ∷ b ∷ more) (b ∷ put_in n more) e) ∙ elim i as (λ x. is_in a (b ∷ put_in n more) ≡ true) [
          | inl same ↦ or_right (nat_eq a b) (is_in a (put_in n more)) (put_into more (inl same))
          | inr is ↦ elim (one_of (nat_eq a b) (is_in a more) is) as (λ x. is_in a (b ∷ put_in n more) ≡ true)
              [ inl h ↦ or_left (nat_eq a b) (is_in a (put_in n more)) h | inr h ↦ or_right (nat_eq a b) (is_in a (put_in n more)) (put_into more (inr h)) ]
        ]
      ]

-- nothing is in a list without elements
none_in : (list : List ℕ) (a : ℕ) → length list ≤ 0 → is_in a list ≡ true → ⊥
none_in [] a le i = true≢false (sym i)
none_in (b ∷ more) a le i = omega (arith, le)

-- ---- what the conditions say of one of the supertypes

module _ (w : Rows) where
  uppers_at : (n : ℕ) (list : List ℕ) (a : ℕ) → are_valid_supertypes w n list ≡ true → is_in a list ≡ true → is_valid_supertype w n a ≡ true
  uppers_at n [] a h i = absurd (true≢false (sym i))
  uppers_at n (b ∷ more) a h i =
      elim (one_of (nat_eq a b) (is_in a more) i) as (λ x. is_valid_supertype w n a ≡ true) [
        | inl e ↦ subst (λ k. is_valid_supertype w n k ≡ true) (sym (eqb-true a b e)) (first_of (is_valid_supertype w n b) (are_valid_supertypes w n more) h)
        | inr is ↦ uppers_at n more a (second_of (is_valid_supertype w n b) (are_valid_supertypes w n more) h) is
      ]

  held_at : (holders list : List ℕ) (a : ℕ) → have_supertypes_in w holders list ≡ true → is_in a list ≡ true → has_supertypes_in w holders a ≡ true
  held_at holders [] a h i = absurd (true≢false (sym i))
  held_at holders (b ∷ more) a h i =
      elim (one_of (nat_eq a b) (is_in a more) i) as (λ x. has_supertypes_in w holders a ≡ true) [
        | inl e ↦ subst (λ k. has_supertypes_in w holders k ≡ true) (sym (eqb-true a b e)) (first_of (has_supertypes_in w holders b) (have_supertypes_in w holders more) h)
        | inr is ↦ held_at holders more a (second_of (has_supertypes_in w holders b) (have_supertypes_in w holders more) h) is
      ]

  next_of : (above list : List ℕ) → has_next w above list ≡ true → (n : ℕ) × (is_next w above n ≡ true)
  next_of above [] h = absurd (true≢false (sym h))
  next_of above (b ∷ more) h =
      elim (one_of (is_next w above b) (has_next w above more) h) as (λ x. (n : ℕ) × (is_next w above n ≡ true))
      [ inl is ↦ (b, is) | inr is ↦ next_of above more is ]

  both_some : (a b : Option CallType) → both_alike w a b ≡ true → (x : CallType) × (y : CallType) × (a ≡ Some x) × (b ≡ Some y) × (call_types_alike w x y ≡ true)
  both_some None b h = absurd (true≢false (sym h))
  both_some (Some x) None h = absurd (true≢false (sym h))
  both_some (Some x) (Some y) h = (x, y, refl, refl, h)

-- ---- each supertype of a type is in its list

above_in : (a : ℕ) (t : TypeDef) → has_supertype a t ≡ true → is_in a t.above ≡ true
unfolding has_supertype
above_in a t h = h

in_above : (a : ℕ) (t : TypeDef) → is_in a t.above ≡ true → has_supertype a t ≡ true
unfolding has_supertype
in_above a t h = h

pub record MakesUp (upper : ℕ) (above : List ℕ) (t : TypeDef) : Type 0 where
  pub shorter : length t.above + 1 ≡ length above
  pub same : put_in upper t.above ≡ above

made_up : (upper : ℕ) (above : List ℕ) (t : TypeDef) → makes_up upper above t ≡ true → MakesUp upper above t
unfolding makes_up
made_up upper above t h = record {
  shorter = eqb-true (length t.above + 1) (length above) (first_of (length t.above + 1 == length above) (pointwise nat_eq (put_in upper t.above) above) h);
  same = (bytes_decides (put_in upper t.above) above).0 (second_of (length t.above + 1 == length above) (pointwise nat_eq (put_in upper t.above) above) h);
}

module _ {w : Rows} {number : ℕ} (well : AreWellTyped w number) where
  is_above_in : (a b : ℕ) (t : TypeDef) → slice_get w.types b ≡ Some t → is_strict_supertype w a b ≡ true → is_in a t.above ≡ true
  is_above_in a b t e h = above_in a t (sym (ap (λ (o : Option TypeDef). option_map_or (has_supertype a) o false) e) ∙ h)

  in_is_above : (a b : ℕ) (t : TypeDef) → slice_get w.types b ≡ Some t → is_in a t.above ≡ true → is_strict_supertype w a b ≡ true
  in_is_above a b t e h = ap (λ (o : Option TypeDef). option_map_or (has_supertype a) o false) e ∙ in_above a t h

  above_at : (c : ℕ) (t : TypeDef) → slice_get w.types c ≡ Some t → well_supertypes w c t ≡ true
  above_at c t e = second_of (has_layout w t) (well_supertypes w c t) (second_of (fits_kind w c t) (has_layout w t && well_supertypes w c t) (type_at well c t e))

  uppers_of : (c : ℕ) (t : TypeDef) → slice_get w.types c ≡ Some t → are_valid_supertypes w c t.above ≡ true
  uppers_of c t e = first_of (are_valid_supertypes w c t.above) (is_closed w c t.above) (second_of (rises_from None t.above) (are_valid_supertypes w c t.above && is_closed w c t.above) (above_at c t e))

  closed_of : (c : ℕ) (t : TypeDef) → slice_get w.types c ≡ Some t → is_closed w c t.above ≡ true
  closed_of c t e = second_of (are_valid_supertypes w c t.above) (is_closed w c t.above) (second_of (rises_from None t.above) (are_valid_supertypes w c t.above && is_closed w c t.above) (above_at c t e))

  -- ---- a supertype of a supertype

  abbrev Reaches : ℕ → ℕ → TypeDef → Type 0
  Reaches a c t = (a ≡ c) ⊎ (is_in a t.above ≡ true)

  by_held : (c : ℕ) (t : TypeDef) (a b : ℕ) → is_strict_supertype w a b ≡ true → is_in b t.above ≡ true → have_supertypes_in w (put_in c t.above) t.above ≡ true → Reaches a c t
  by_held c t a b h i held =
      let found = some_that (λ (u : TypeDef). is_part u.above (put_in c t.above)) (slice_get w.types b) (held_at w (put_in c t.above) t.above b held i) in
      put_from c a t.above (part_in (put_in c t.above) found.0.above a found.2 (is_above_in a b found.0 found.1 h))

  -- where all the others are supertypes of one of them, it is so of that one
  by_next : (c : ℕ) (t : TypeDef) (a b n : ℕ) (u : TypeDef) → slice_get w.types n ≡ Some u → MakesUp n t.above u → is_strict_supertype w a b ≡ true → is_in b t.above ≡ true → (is_in b u.above ≡ true → Reaches a n u) → Reaches a c t
  by_next c t a b n u e made h i on =
      let into : (a ≡ n) ⊎ (is_in a u.above ≡ true) → Reaches a c t = λ r. inr (subst (λ list. is_in a list ≡ true) made.same (put_into n a u.above r)) in
      elim (put_from n b u.above (subst (λ list. is_in b list ≡ true) (sym made.same) i)) as (λ x. Reaches a c t)
      [ inl same ↦ into (inr (is_above_in a n u e (subst (λ k. is_strict_supertype w a k ≡ true) same h))) | inr is ↦ into (on is) ]

  from_next : (size c : ℕ) (t : TypeDef) (a b : ℕ) → length t.above ≤ suc size → is_strict_supertype w a b ≡ true → is_in b t.above ≡ true → (n : ℕ) → is_next w t.above n ≡ true → ((k : ℕ) (u : TypeDef) → slice_get w.types k ≡ Some u → length u.above ≤ size → is_in b u.above ≡ true → Reaches a k u) → Reaches a c t
  from_next size c t a b le h i n next on =
      let found = some_that (makes_up n t.above) (slice_get w.types n) next in
      let made = made_up n t.above found.0 found.2 in
      by_next c t a b n found.0 found.1 made h i (on n found.0 found.1 (omega (arith, made.shorter, le)))

  reaches : (size c : ℕ) (t : TypeDef) (a b : ℕ) → slice_get w.types c ≡ Some t → length t.above ≤ size → is_strict_supertype w a b ≡ true → is_in b t.above ≡ true → Reaches a c t
  reaches zero c t a b e le h i = absurd (none_in t.above b le i)
  reaches (suc size) c t a b e le h i =
      elim (one_of (has_next w t.above t.above) (have_supertypes_in w (put_in c t.above) t.above) (closed_of c t e)) as (λ x. Reaches a c t) [
        | inl next ↦ from_next size c t a b le h i (next_of w t.above t.above next).0 (next_of w t.above t.above next).1 (λ n u f less is. reaches size n u a b f less h is)
        | inr held ↦ by_held c t a b h i held
      ]

  above_both : (a b c : ℕ) → is_strict_supertype w a b ≡ true → is_strict_supertype w b c ≡ true → is_supertype w a c ≡ true
  above_both a b c h k =
      let found = some_that (has_supertype b) (slice_get w.types c) k in
      elim (reaches (length found.0.above) c found.0 a b found.1 (le_refl (length found.0.above)) h (above_in b found.0 found.2)) as (λ x. is_supertype w a c ≡ true)
      [ inl same ↦ or_left (a == c) (is_strict_supertype w a c) (eq-eqb a c same) | inr is ↦ or_right (a == c) (is_strict_supertype w a c) (in_is_above a c found.0 found.1 is) ]

  pub above_above : (a b c : ℕ) → is_supertype w a b ≡ true → is_supertype w b c ≡ true → is_supertype w a c ≡ true
  above_above a b c h k =
      elim (one_of (a == b) (is_strict_supertype w a b) h) as (λ x. is_supertype w a c ≡ true) [
        | inl e ↦ subst (λ n. is_supertype w n c ≡ true) (sym (eqb-true a b e)) k
        | inr up ↦ elim (one_of (b == c) (is_strict_supertype w b c) k) as (λ x. is_supertype w a c ≡ true)
            [ inl e ↦ subst (λ n. is_supertype w a n ≡ true) (eqb-true b c e) h | inr more ↦ above_both a b c up more ]
      ]

  -- ---- which types are supertypes of others

  pub above_is : (upper lower : ℕ) → is_strict_supertype w upper lower ≡ true → (is_abstract w upper ≡ true) ⊎ ((a : CallType) × (b : CallType) × (call_type_at w.bound lower ≡ Some a) × (call_type_at w.bound upper ≡ Some b) × (call_types_alike w a b ≡ true))
  above_is upper lower h =
      let found = some_that (has_supertype upper) (slice_get w.types lower) h in
      elim (one_of (is_abstract w upper) (is_bound_supertype w lower upper) (uppers_at w lower found.0.above upper (uppers_of lower found.0 found.1) (above_in upper found.0 found.2))) as (λ x. (is_abstract w upper ≡ true) ⊎ ((a : CallType) × (b : CallType) × (call_type_at w.bound lower ≡ Some a) × (call_type_at w.bound upper ≡ Some b) × (call_types_alike w a b ≡ true)))
      [ inl is ↦ inl is | inr is ↦ inr (both_some w (call_type_at w.bound lower) (call_type_at w.bound upper) is) ]
