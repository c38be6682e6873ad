-- A signature has an implementation of each concrete subtype: they are in the order of rising indices, each is one of them, and they are as
-- many.
use Rattle.std.proofs.Common.{◌≡◌, ℕ, zero, suc, ◌+◌, ◌≤◌, inl, inr, Bool, true, false, not, ◌&&◌, ◌==◌, nat_lt, cond, find, count_by, List, [], ◌∷◌, map, length, Option, Some, None, slice_get, is_none, sym, ap, subst, ◌∙◌, true≢false, eqb-true, arith}
use Rattle.std.specs.Prelude.{nat_eq}
use Rattle.std.specs.Option.{option_map_or}
use Rattle.std.proofs.lemmas.Bool.{and_from, cases_Bool, cases_eq, cond-true, cond-false, eq-eqb, ltb-true, not_from_false, or_left, or_right}
use Rattle.std.proofs.lemmas.List.{length-map}
use Rattle.std.proofs.lemmas.List.Sums.{sum_by-cons}
use Rattle.std.proofs.lemmas.Option.{none-some, same_Some}
use Rattle.sa_typed.specs.declared.program.TypedImplementation.{TypedImplementation}
use Rattle.sa_typed.specs.declared.program.TypedSignature.{TypedSignature}
use Rattle.sa_typed.specs.declared.program.TypeDef.{TypeDef}
use Rattle.sa_typing.specs.declared.call_type.CallType.{CallType}
use Rattle.sa_typing.specs.Rows.{Rows, has_supertype, is_strict_supertype, is_abstract, is_abstract_kind, call_type_at}
use Rattle.sa_typing.specs.Features.{is_concrete_class}
use Rattle.sa_typing.specs.Signatures.{all_implement, are_implementations, is_implementation, is_lower, lower_count, rise_from}
use Rattle.sa_typing.specs.WellTyped.{AreWellTyped}
use Rattle.sa_type_safety.specs.Typing.{Each}
use Rattle.sa_type_safety.proofs.Facts.{first_of, second_of, one_of, some_that, signature_at}
use Rattle.sa_type_safety.proofs.Above.{is_in}

-- ---- rising numbers

-- they rise from a number on
abbrev Rise : ℕ → List ℕ → Type 0
Rise n [] = Unit {0}
Rise n (k ∷ more) = (n ≤ k) × Rise (k + 1) more

rise_below : (n m : ℕ) (list : List ℕ) → n ≤ m → Rise m list → Rise n list
rise_below n m [] le r = tt
rise_below n m (k ∷ more) le r = (omega (arith, le, r.0), r.1)

-- ---- indices of a list at which a test is true

module _ {A : Type 0} (test : A → Bool) where
  -- the number of such an element, where the elements are numbered from a number on
  record At (n : ℕ) (list : List A) (k : ℕ) : Type 0 where
    pub place : ℕ
    pub element : A
    pub number : k ≡ n + place
    pub is : slice_get list place ≡ Some element
    pub passes : test element ≡ true

  nowhere : (n k : ℕ) → At n [] k → ⊥
  nowhere n k at = none-some at.element at.is

  is_first : (n : ℕ) (a : A) (list : List A) (k place : ℕ) (element : A) → k ≡ n + place → slice_get (a ∷ list) place ≡ Some element → test element ≡ true → k ≡ n → test a ≡ true
  is_first n a list k zero element e is passes same = ap test (same_Some a element is) ∙ passes
  is_first n a list k (suc place) element e is passes same = absurd (omega (arith, e, same))

  is_later : (n : ℕ) (a : A) (list : List A) (k place : ℕ) (element : A) → k ≡ n + place → slice_get (a ∷ list) place ≡ Some element → test element ≡ true → n + 1 ≤ k → At (n + 1) list k
  is_later n a list k zero element e is passes le = absurd (omega (arith, e, le))
  is_later n a list k (suc place) element e is passes le = record { place = place; element = element; number = omega (arith, e); is = is; passes = passes }

  first_at : (n : ℕ) (a : A) (list : List A) (k : ℕ) → At n (a ∷ list) k → k ≡ n → test a ≡ true
  first_at n a list k at same = is_first n a list k at.place at.element at.number at.is at.passes same

  later : (n : ℕ) (a : A) (list : List A) (k : ℕ) → At n (a ∷ list) k → n + 1 ≤ k → At (n + 1) list k
  later n a list k at le = is_later n a list k at.place at.element at.number at.is at.passes le

  all_later : (n : ℕ) (a : A) (list : List A) (numbers : List ℕ) → Rise (n + 1) numbers → Each (At n (a ∷ list)) numbers → Each (At (n + 1) list) numbers
  all_later n a list [] r e = tt
  all_later n a list (k ∷ more) r e = (later n a list k e.0 r.0, all_later n a list more (rise_below (n + 1) (k + 1) more (omega (arith, r.0)) r.1) e.1)

  counted_first : (a : A) (list : List A) → test a ≡ true → count_by test (a ∷ list) ≡ 1 + count_by test list
  counted_first a list h = sum_by-cons (λ (x : A). cond (test x) 1 0) a list ∙ ap (λ (b : Bool). cond b 1 0 + count_by test list) h

  counted_other : (a : A) (list : List A) → test a ≡ false → count_by test (a ∷ list) ≡ count_by test list
  counted_other a list h = let step : count_by test (a ∷ list) ≡ 0 + count_by test list = sum_by-cons (λ (x : A). cond (test x) 1 0) a list ∙ ap (λ (b : Bool). cond b 1 0 + count_by test list) h in omega (arith, step)

  counted_more : (a : A) (list : List A) → count_by test list ≤ count_by test (a ∷ list)
  counted_more a list =
      elim (cases_Bool (test a)) as (λ x. count_by test list ≤ count_by test (a ∷ list))
      [ inl h ↦ omega (arith, counted_first a list h) | inr h ↦ omega (arith, counted_other a list h) ]

  -- there are no more rising numbers of such elements than there are such elements
  no_more : (list : List A) (n : ℕ) (numbers : List ℕ) → Rise n numbers → Each (At n list) numbers → length numbers ≤ count_by test list
  no_more [] n [] r e = omega arith
  no_more [] n (k ∷ more) r e = absurd (nowhere n k e.0)
  no_more (a ∷ list) n [] r e = omega arith
  no_more (a ∷ list) n (k ∷ more) r e =
      elim (cases_eq k n) as (λ x. length (k ∷ more) ≤ count_by test (a ∷ list)) [
        | inl same ↦
            (let rest : Rise (n + 1) more = rise_below (n + 1) (k + 1) more (omega (arith, same)) r.1 in
            let shorter : length more ≤ count_by test list = no_more list (n + 1) more rest (all_later n a list more rest e.1) in
            omega (arith, shorter, counted_first a list (first_at n a list k e.0 same)))
        | inr other ↦
            (let rest : Rise (n + 1) (k ∷ more) = (omega (arith, r.0, other), r.1) in
            let shorter : length (k ∷ more) ≤ count_by test list = no_more list (n + 1) (k ∷ more) rest (all_later n a list (k ∷ more) rest e) in
            omega (arith, shorter, counted_more a list))
      ]

  moved : (n place : ℕ) (numbers : List ℕ) → is_in (n + 1 + place) numbers ≡ true → is_in (n + suc place) numbers ≡ true
  moved n place numbers h = subst (λ k. is_in k numbers ≡ true) (omega arith) h

  -- the first number is that of the first element
  at_first : (a : A) (list : List A) (n k : ℕ) (more : List ℕ) (place : ℕ) (element : A) → k ≡ n → slice_get (a ∷ list) place ≡ Some element → ((after : ℕ) → slice_get list after ≡ Some element → is_in (n + 1 + after) more ≡ true) → is_in (n + place) (k ∷ more) ≡ true
  at_first a list n k more zero element same is on = or_left (nat_eq (n + zero) k) (is_in (n + zero) more) (eq-eqb (n + zero) k (omega (arith, same)))
  at_first a list n k more (suc place) element same is on = or_right (nat_eq (n + suc place) k) (is_in (n + suc place) more) (moved n place more (on place is))

  -- the test is false at the first element, and the first number is greater
  after_first : (a : A) (list : List A) (n k : ℕ) (more : List ℕ) (place : ℕ) (element : A) → count_by test (a ∷ list) ≡ length (k ∷ more) → length (k ∷ more) ≤ count_by test list → slice_get (a ∷ list) place ≡ Some element → test element ≡ true → ((after : ℕ) → slice_get list after ≡ Some element → count_by test list ≡ length (k ∷ more) → is_in (n + 1 + after) (k ∷ more) ≡ true) → is_in (n + place) (k ∷ more) ≡ true
  after_first a list n k more zero element count le is passes on =
      absurd (omega (arith, count, le, counted_first a list (ap test (same_Some a element is) ∙ passes)))
  after_first a list n k more (suc place) element count le is passes on =
      moved n place (k ∷ more) (on place is (omega (arith, count, le, counted_more a list)))

  -- where they are as many, the number of each such element is one of them
  all_of_them : (list : List A) (n : ℕ) (numbers : List ℕ) → Rise n numbers → Each (At n list) numbers → count_by test list ≡ length numbers → (place : ℕ) (element : A) → slice_get list place ≡ Some element → test element ≡ true → is_in (n + place) numbers ≡ true
  all_of_them [] n numbers r e count place element is passes = absurd (none-some element is)
  all_of_them (a ∷ list) n [] r e count zero element is passes =
      absurd (omega (arith, count, counted_first a list (ap test (same_Some a element is) ∙ passes)))
  all_of_them (a ∷ list) n [] r e count (suc place) element is passes =
      all_of_them list (n + 1) [] tt tt (omega (arith, count, counted_more a list)) place element is passes
  all_of_them (a ∷ list) n (k ∷ more) r e count place element is passes =
      elim (cases_eq k n) as (λ x. is_in (n + place) (k ∷ more) ≡ true) [
        | inl same ↦
            (let rest : Rise (n + 1) more = rise_below (n + 1) (k + 1) more (omega (arith, same)) r.1 in
            at_first a list n k more place element same is
            (λ after at. all_of_them list (n + 1) more rest (all_later n a list more rest e.1) (omega (arith, count, counted_first a list (first_at n a list k e.0 same))) after element at passes))
        | inr other ↦
            (let rest : Rise (n + 1) (k ∷ more) = (omega (arith, r.0, other), r.1) in
            let are : Each (At (n + 1) list) (k ∷ more) = all_later n a list (k ∷ more) rest e in
            after_first a list n k more place element count (no_more list (n + 1) (k ∷ more) rest are) is passes
            (λ after at less. all_of_them list (n + 1) (k ∷ more) rest are less after element at passes))
      ]

-- ---- the implementations of a signature

module _ {w : Rows} {number : ℕ} (well : AreWellTyped w number) where
  abbrev types_of : List TypedImplementation → List ℕ
  types_of impls = map (λ (i : TypedImplementation). i.ty) impls

  rises_after : (last : ℕ) (impls : List TypedImplementation) → rise_from (Some last) impls ≡ true → Rise (last + 1) (types_of impls)
  rises_after last [] h = tt
  rises_after last (i ∷ more) h =
      (omega (arith, ltb-true last i.ty (first_of (nat_lt last i.ty) (rise_from (Some i.ty) more) h)), rises_after i.ty more (second_of (nat_lt last i.ty) (rise_from (Some i.ty) more) h))

  rises : (impls : List TypedImplementation) → rise_from None impls ≡ true → Rise 0 (types_of impls)
  rises [] h = tt
  rises (i ∷ more) h = (omega arith, rises_after i.ty more h)

  -- the type of an implementation is concrete and a subtype of that of the signature
  lower_at : (upper ty : ℕ) → is_strict_supertype w upper ty ≡ true → is_abstract w ty ≡ false → (t : TypeDef) × (slice_get w.types ty ≡ Some t) × (is_lower upper t ≡ true)
  lower_at upper ty up concrete =
      let found = some_that (has_supertype upper) (slice_get w.types ty) up in
      (found.0, found.1, and_from (not (is_abstract_kind found.0.kind)) (has_supertype upper found.0) (not_from_false (is_abstract_kind found.0.kind) (sym (ap (λ (o : Option TypeDef). option_map_or (λ (t : TypeDef). is_abstract_kind t.kind) o false) found.1) ∙ concrete)) found.2)

  impl_at : (shape : CallType) (upper : ℕ) (i : TypedImplementation) → is_implementation w shape upper i ≡ true → At (is_lower upper) 0 w.types i.ty
  impl_at shape upper i h =
      let there = some_that (λ (t : TypeDef). not (is_abstract_kind t.kind) && is_none (call_type_at w.bound i.ty)) (slice_get w.types i.ty) (first_of (is_concrete_class w i.ty) _ h) in
      let found = some_that (has_supertype upper) (slice_get w.types i.ty) (first_of (is_strict_supertype w upper i.ty) _ (second_of (is_concrete_class w i.ty) _ h)) in
      let same : there.0 ≡ found.0 = same_Some there.0 found.0 (sym there.1 ∙ found.1) in
      record {
        place = i.ty;
        element = found.0;
        number = omega arith;
        is = found.1;
        passes = and_from (not (is_abstract_kind found.0.kind)) (has_supertype upper found.0) (subst (λ (t : TypeDef). not (is_abstract_kind t.kind) ≡ true) same (first_of (not (is_abstract_kind there.0.kind)) (is_none (call_type_at w.bound i.ty)) there.2)) found.2;
      }

  impls_at : (shape : CallType) (upper : ℕ) (impls : List TypedImplementation) → all_implement w shape upper impls ≡ true → Each (At (is_lower upper) 0 w.types) (types_of impls)
  impls_at shape upper [] h = tt
  impls_at shape upper (i ∷ more) h = (
    impl_at shape upper i (first_of (is_implementation w shape upper i) (all_implement w shape upper more) h),
    impls_at shape upper more (second_of (is_implementation w shape upper i) (all_implement w shape upper more) h),
  )

  found_in : (shape : CallType) (upper own : ℕ) (impls : List TypedImplementation) → is_in own (types_of impls) ≡ true → all_implement w shape upper impls ≡ true → (i : TypedImplementation) × (find (λ (j : TypedImplementation). j.ty == own) impls ≡ Some i) × (i.ty ≡ own) × (is_implementation w shape upper i ≡ true)
  found_in shape upper own [] h all = absurd (true≢false (sym h))
  found_in shape upper own (i ∷ more) h all =
      elim (cases_Bool (i.ty == own)) as (λ x. (j : TypedImplementation) × (find (λ (j : TypedImplementation). j.ty == own) (i ∷ more) ≡ Some j) × (j.ty ≡ own) × (is_implementation w shape upper j ≡ true)) [
        | inl e ↦ (i, cond-true (i.ty == own) (Some i) (find (λ (j : TypedImplementation). j.ty == own) more) e, eqb-true i.ty own e, first_of (is_implementation w shape upper i) (all_implement w shape upper more) all)
        | inr e ↦ elim (one_of (nat_eq own i.ty) (is_in own (types_of more)) h) as (λ x. (j : TypedImplementation) × (find (λ (j : TypedImplementation). j.ty == own) (i ∷ more) ≡ Some j) × (j.ty ≡ own) × (is_implementation w shape upper j ≡ true)) [
          | inl same ↦ absurd (true≢false (sym (eq-eqb i.ty own (sym (eqb-true own i.ty same))) ∙ e))
          | inr is ↦
              (let next = found_in shape upper own more is (second_of (is_implementation w shape upper i) (all_implement w shape upper more) all) in
              (next.0, cond-false (i.ty == own) (Some i) (find (λ (j : TypedImplementation). j.ty == own) more) e ∙ next.1, next.2, next.3))
        ]
      ]

  pub implemented : (k : ℕ) (s : TypedSignature) (own : ℕ) → slice_get w.signatures k ≡ Some s → is_strict_supertype w s.ty own ≡ true → is_abstract w own ≡ false → (i : TypedImplementation) × (shape : CallType) × (find (λ (j : TypedImplementation). j.ty == own) s.impls ≡ Some i) × (i.ty ≡ own) × (call_type_at w.shapes k ≡ Some shape) × (is_implementation w shape s.ty i ≡ true)
  implemented k s own e up concrete =
      let first = second_of (is_abstract w s.ty) _ (signature_at well k s e) in
      let count = eqb-true (lower_count w s.ty) (length s.impls) (first_of (lower_count w s.ty == length s.impls) _ first) in
      let second = second_of (lower_count w s.ty == length s.impls) (rise_from None s.impls && are_implementations w (call_type_at w.shapes k) s) first in
      let shaped = some_that (λ (shape : CallType). all_implement w shape s.ty s.impls) (call_type_at w.shapes k) (second_of (rise_from None s.impls) (are_implementations w (call_type_at w.shapes k) s) second) in
      let below = lower_at s.ty own up concrete in
      let there : is_in (0 + own) (types_of s.impls) ≡ true =
      all_of_them (is_lower s.ty) w.types 0 (types_of s.impls) (rises s.impls (first_of (rise_from None s.impls) _ second)) (impls_at shaped.0 s.ty s.impls shaped.2)
      (count ∙ sym (length-map s.impls (λ (i : TypedImplementation). i.ty))) own below.0 below.1 below.2 in
      let found = found_in shaped.0 s.ty own s.impls (subst (λ n. is_in n (types_of s.impls) ≡ true) (omega arith) there) shaped.2 in
      (found.0, shaped.0, found.1, found.2, shaped.1, found.3)
