-- The built-in features are safe.
use Rattle.std.proofs.Common.{◌≡◌, ℕ, inl, inr, Bool, true, false, ◌&&◌, ◌==◌, List, [], ◌∷◌, ◌++◌, length, take, drop, set, Option, Some, None, slice_get, is_some, refl, sym, ap, subst, ◌∙◌, true≢false, eqb-true, arith}
use Rattle.std.specs.Prelude.{ℤ, pos, ◌+ℤ◌, ◌-ℤ◌, ◌*ℤ◌, neg_ℤ, int_div, int_rem, int_le}
use Rattle.std.specs.Fmt.{signed_decimal}
use Rattle.std.proofs.lemmas.Option.{same_Some}
use Rattle.sa_ast.specs.declared.fault_kind.FaultKind.TheVariants as fault_kind
use Rattle.sa_ast.specs.declared.pos.Pos.{Pos}
use Rattle.sa_ast.specs.declared.ty.Mode.TheVariants as mode
use Rattle.sa_typed.specs.declared.feature.Target.TheVariants as target
use Rattle.sa_prelude.specs.declared.feature.BuiltinFeature.{BuiltinFeature}
use Rattle.sa_prelude.specs.declared.feature.BuiltinFeature.TheVariants.{BoolIsEq, BoolNot, IntPlus, IntMinus, IntTimes, IntNegate, IntDiv, IntMod, IntIsEq, IntIsLt, IntBand, IntBor, IntBxor, IntStr, IntChar, CharIsEq, CharIsLt, CharInt, CharStr, StrSize, StrAget, StrCat, StrSubstring, StrOf, OutPut, OutPutInt, OutPutChar, InGetByte, SysObEq, ArefAsize, ArefAget, ArefAset, ArrayCreate}
use Rattle.sa_typing.specs.declared.expr_type.ParamType.{ParamType}
use Rattle.sa_typing.specs.Rows.{Rows, element_of, has_array}
use Rattle.sa_typing.specs.Builtins.{arity_of, bool_type, char_type, int_type, is_characters, is_of, ob_type, result_type, str_type}
use Rattle.sa_typing.specs.Targets.{builtin_parameter, in_parameter, target_result}
use Rattle.sa_semantics.specs.Program.{Program}
use Rattle.sa_semantics.specs.Value.{Value, Void, Int, Char, is_zero, as_int, as_truth, as_char, as_text}
use Rattle.sa_semantics.specs.Sequence.{◌>>=◌, or_stuck}
use Rattle.sa_semantics.specs.State.{Object}
use Rattle.sa_semantics.specs.Steps.{Eval}
use Rattle.sa_semantics.specs.Builtin.{is_between, index_of, elements_of, whole, divide, long_text, byte_at, part, text_of, element_at, set_element, unless_void, builtin_call}
use Rattle.sa_semantics.specs.Calls.{only_given}
use Rattle.sa_type_safety.specs.Typing.{Each, ObjectType, object_type_of, HasType, HasTypeIf, ObjectWell, Takes}
use Rattle.sa_type_safety.proofs.Facts.{first_of, second_of, some_that}
use Rattle.sa_type_safety.proofs.ProgramFacts.{ProgramFacts}
use Rattle.sa_type_safety.proofs.Worlds.{each_that, each_get, each_set, known_later, object_later, type_if_later}
use Rattle.sa_type_safety.proofs.Safe.{Point, Safe, Any, safe_then, safe_before, safe_with, safe_if, safe_pure, safe_some}
use Rattle.sa_type_safety.proofs.SafeSteps.{safe_spend, safe_object_at, safe_set_object, safe_fault, safe_new_text, safe_put_byte, safe_put_bytes, safe_put_text, safe_get_byte}
use Rattle.sa_type_safety.proofs.Passing.{ArgThat, GivenWell}
use Rattle.sa_type_safety.proofs.Forms.{int_form, truth_form, char_form, text_form}
use Rattle.sa_type_safety.proofs.SafeRoutines.{count_of}
use Rattle.sa_type_safety.proofs.Arrays.{ArrayFacts, array_facts, array_objects, array_form, bytes_seen, each_take, placed}
use Rattle.sa_type_safety.proofs.NewObjects.{safe_new_array}

some_is : {A : Type 0} (o : Option A) → is_some o ≡ true → (a : A) × (o ≡ Some a)
some_is None e = absurd (true≢false (sym e))
some_is (Some a) e = (a, refl)

-- ---- the values that are given

module _ (w : Rows) (ks : List ObjectType) where
  in_arg : (ty : ℕ) (o : ParamType) (v : Option Value) → in_parameter (Some ty) ≡ Some o → ArgThat (λ u. HasType w ks u o.ty) false o.mode v → (u : Value) × (v ≡ Some u) × HasType w ks u ty
  in_arg ty o None e h = absurd (subst (λ (q : ParamType). ArgThat (λ u. HasType w ks u q.ty) false q.mode None) (sym (same_Some (record { mode = mode.In; ty = ty }) o e)) h)
  in_arg ty o (Some u) e h = (u, refl, subst (λ (q : ParamType). ArgThat (λ a. HasType w ks a q.ty) false q.mode (Some u)) (sym (same_Some (record { mode = mode.In; ty = ty }) o e)) h)

  no_values : (own : List ParamType) (given : List (Option Value)) → 0 ≡ length own → GivenWell w ks false own given → only_given given ≡ []
  no_values [] [] n h = refl
  no_values [] (v ∷ given) n h = absurd h
  no_values (o ∷ own) given n h = absurd (omega (arith, n))

  one_value : (ty : ℕ) (own : List ParamType) (given : List (Option Value)) → 1 ≡ length own → in_parameter (Some ty) ≡ slice_get own 0 → GivenWell w ks false own given → (v : Value) × (only_given given ≡ v ∷ []) × HasType w ks v ty
  one_value ty [] given n e h = absurd (omega (arith, n))
  one_value ty (o ∷ q ∷ own) given n e h = absurd (omega (arith, n))
  one_value ty (o ∷ []) [] n e h = absurd h
  one_value ty (o ∷ []) (v ∷ u ∷ given) n e h = absurd h.1
  one_value ty (o ∷ []) (v ∷ []) n e h = let a = in_arg ty o v e h.0 in (a.0, ap (λ i. only_given (i ∷ [])) a.1, a.2)

  two_values : (ty other : ℕ) (own : List ParamType) (given : List (Option Value)) → 2 ≡ length own → in_parameter (Some ty) ≡ slice_get own 0 → in_parameter (Some other) ≡ slice_get own 1 → GivenWell w ks false own given → (v : Value) × (u : Value) × (only_given given ≡ v ∷ u ∷ []) × HasType w ks v ty × HasType w ks u other
  two_values ty other [] given n e f h = absurd (omega (arith, n))
  two_values ty other (o ∷ []) given n e f h = absurd (omega (arith, n))
  two_values ty other (o ∷ q ∷ r ∷ own) given n e f h = absurd (omega (arith, n))
  two_values ty other (o ∷ q ∷ []) [] n e f h = absurd h
  two_values ty other (o ∷ q ∷ []) (v ∷ []) n e f h = absurd h.1
  two_values ty other (o ∷ q ∷ []) (v ∷ u ∷ t ∷ given) n e f h = absurd h.1.1
  two_values ty other (o ∷ q ∷ []) (v ∷ u ∷ []) n e f h =
      let a = in_arg ty o v e h.0 in
      let b = in_arg other q u f h.1.0 in
      (a.0, b.0, ap (λ i. only_given (i ∷ u ∷ [])) a.1 ∙ ap (λ i. a.0 ∷ only_given (i ∷ [])) b.1, a.2, b.2)

module _ (w : Rows) where
  characters_is : (o : Option ℕ) → is_characters w o ≡ true → (ty : ℕ) × (o ≡ Some ty) × (has_array w ty ≡ true) × (element_of w ty ≡ Some char_type)
  characters_is None e = absurd (true≢false (sym e))
  characters_is (Some ty) e =
      let found = some_that (λ elem. elem == char_type) (element_of w ty) (second_of (has_array w ty) _ e) in
      (ty, refl, first_of (has_array w ty) _ e, found.1 ∙ ap (λ n. Some n) (eqb-true found.0 char_type found.2))

module _ {w : Rows} {p : Program} (k : ProgramFacts w p) where
  -- ---- what values of the types that each program has are

  int_seen : (ks : List ObjectType) (v : Value) → HasType w ks v int_type → (z : ℤ) × (as_int v ≡ Some z)
  int_seen ks v h = let f = int_form k ks v h in (f.0, ap as_int f.1)

  truth_seen : (ks : List ObjectType) (v : Value) → HasType w ks v bool_type → (b : Bool) × (as_truth v ≡ Some b)
  truth_seen ks v h = let f = truth_form k ks v h in (f.0, ap as_truth f.1)

  char_seen : (ks : List ObjectType) (v : Value) → HasType w ks v char_type → (byte : ℕ) × (as_char v ≡ Some byte)
  char_seen ks v h = let f = char_form k ks v h in (f.0, ap as_char f.1)

  -- ---- fragments of the features

  module _ (class : Option ℕ) (at : Pos) (self : Value) (values : List Value) where
    safe_whole : {base : List ObjectType} {x : Point} (z : ℤ) → Safe w base x Value (λ ks v. HasType w ks v int_type) (whole p class at self values z)
    safe_whole z = safe_if _ (λ e. safe_pure (Int z) (λ ks f. refl)) (λ e. safe_fault k.well p fault_kind.Overflow at)

    safe_divided : {base : List ObjectType} {x : Point} (f : ℤ → ℤ → ℤ) (a b : ℤ) → Safe w base x Value (λ ks v. HasType w ks v int_type) (divide p class at self values f a b)
    safe_divided f a b = safe_if (is_zero b) (λ e. safe_fault k.well p fault_kind.DivisionByZero at) (λ e. safe_whole (f a b))

    safe_long_text : {base : List ObjectType} {x : Point} (bytes : List ℕ) → Safe w base x Value (λ ks v. HasType w ks v str_type) (long_text p class at self values bytes)
    safe_long_text bytes = safe_before (safe_spend k.well _) (λ ks e. safe_new_text k.well at bytes)

    safe_byte_at : {base : List ObjectType} {x : Point} (bytes : List ℕ) (i : ℤ) → Safe w base x Value (λ ks v. HasType w ks v char_type) (byte_at p class at self values bytes i)
    safe_byte_at bytes i =
        safe_if _
        (λ e. let found = placed bytes i e in safe_with _ found.0 found.1 (safe_pure (Char found.0) (λ ks f. refl)))
        (λ e. safe_fault k.well p fault_kind.Index at)

    safe_part : {base : List ObjectType} {x : Point} (bytes : List ℕ) (i n : ℤ) → Safe w base x Value (λ ks v. HasType w ks v str_type) (part p class at self values bytes i n)
    safe_part bytes i n =
        safe_if (int_le (pos 0) i && int_le (pos 0) n && int_le (i +ℤ n) (pos (length bytes)))
        (λ e. safe_long_text (take (index_of n) (drop (index_of i) bytes)))
        (λ e. safe_fault k.well p fault_kind.Index at)

    safe_text_of : {base : List ObjectType} {x : Point} (elements : List Value) (n : ℤ) → Each (λ v. HasType w base v char_type) elements → Safe w base x Value (λ ks v. HasType w ks v str_type) (text_of p class at self values elements n)
    safe_text_of {base} elements n h =
        safe_if (is_between (pos 0) (pos (length elements)) n)
        (λ e. let bytes = bytes_seen k base (take (index_of n) elements) (each_take (λ v. HasType w base v char_type) (index_of n) elements h) in
        safe_with (long_text p class at self values) bytes.0 bytes.1 (safe_long_text bytes.0))
        (λ e. safe_fault k.well p fault_kind.Index at)

  -- ---- arrays

  facts : ArrayFacts w
  facts = array_facts k

  elements_well : (ks : List ObjectType) (o : Object) (ty : ℕ) → object_type_of o ≡ record { ty = ty; binding = None } → ObjectWell w ks o → Each (HasTypeIf w ks (element_of w ty)) o.elements
  elements_well ks o ty e h = subst (λ n. Each (HasTypeIf w ks (element_of w n)) o.elements) (ap (λ (n : ObjectType). n.ty) e) h.1

  safe_elements : {base : List ObjectType} {x : Point} (ty : ℕ) (v : Value) → has_array w ty ≡ true → HasType w base v ty → Safe w base x (List Value) (λ ks es. Each (HasTypeIf w ks (element_of w ty)) es) (elements_of v)
  safe_elements {base} {x} ty v a h =
      elim (array_form k facts base ty a v h) as (λ i. Safe w base x (List Value) (λ ks es. Each (HasTypeIf w ks (element_of w ty)) es) (elements_of v)) [
        | inl e ↦ subst (λ u. Safe w base x (List Value) (λ ks es. Each (HasTypeIf w ks (element_of w ty)) es) (elements_of u)) (sym e) (safe_pure [] (λ ks f. tt))
        | inr r ↦ subst (λ u. Safe w base x (List Value) (λ ks es. Each (HasTypeIf w ks (element_of w ty)) es) (elements_of u)) (sym r.1)
            (safe_with _ r.0 refl (safe_then (safe_object_at k.well r.0 _ r.2)
            (λ ks o f found. safe_pure o.elements (λ js g. each_that o.elements (type_if_later w g (element_of w ty)) (elements_well ks o ty found.0 found.1)))))
      ]

  module _ (base : List ObjectType) (x : Point) (class : ℕ) (at : Pos) (values : List Value) (i : ℤ) where
    safe_element : (self : Value) → has_array w class ≡ true → HasType w base self class → Safe w base x Value (λ ks v. HasTypeIf w ks (element_of w class) v) (unless_void p (Some class) at self values (element_at p (Some class) at self values i))
    safe_element self a h =
        elim (array_form k facts base class a self h) as (λ j. Safe w base x Value (λ ks v. HasTypeIf w ks (element_of w class) v) (unless_void p (Some class) at self values (element_at p (Some class) at self values i))) [
          | inl e ↦ subst (λ u. Safe w base x Value (λ ks v. HasTypeIf w ks (element_of w class) v) (unless_void p (Some class) at u values (element_at p (Some class) at u values i))) (sym e) (safe_fault k.well p fault_kind.Void at)
          | inr r ↦ subst (λ u. Safe w base x Value (λ ks v. HasTypeIf w ks (element_of w class) v) (unless_void p (Some class) at u values (element_at p (Some class) at u values i))) (sym r.1)
              (safe_with _ r.0 refl (safe_then (safe_object_at k.well r.0 _ r.2)
              (λ ks o f found. safe_if _
              (λ t. let got = placed o.elements i t in
              safe_some got.0 got.1 (λ js g. type_if_later w g (element_of w class) got.0 (each_get (HasTypeIf w ks (element_of w class)) o.elements (index_of i) got.0 got.1 (elements_well ks o class found.0 found.1))))
              (λ t. safe_fault k.well p fault_kind.Index at))))
        ]

    stored_well : (ks : List ObjectType) (o : Object) (v : Value) → object_type_of o ≡ record { ty = class; binding = None } → ObjectWell w ks o → HasTypeIf w ks (element_of w class) v → ObjectWell w ks (record o { elements = set o.elements (index_of i) v })
    stored_well ks o v e h is =
        (h.0, each_set (HasTypeIf w ks (element_of w o.ty)) o.elements (index_of i) v (subst (λ n. HasTypeIf w ks (element_of w n) v) (sym (ap (λ (n : ObjectType). n.ty) e)) is) h.1)

    safe_set : (self v : Value) → has_array w class ≡ true → HasType w base self class → HasTypeIf w base (element_of w class) v → Safe w base x Value Any (unless_void p (Some class) at self values (set_element p (Some class) at self values i v))
    safe_set self v a h is =
        elim (array_form k facts base class a self h) as (λ j. Safe w base x Value Any (unless_void p (Some class) at self values (set_element p (Some class) at self values i v))) [
          | inl e ↦ subst (λ u. Safe w base x Value Any (unless_void p (Some class) at u values (set_element p (Some class) at u values i v))) (sym e) (safe_fault k.well p fault_kind.Void at)
          | inr r ↦ subst (λ u. Safe w base x Value Any (unless_void p (Some class) at u values (set_element p (Some class) at u values i v))) (sym r.1)
              (safe_with _ r.0 refl (safe_then (safe_object_at k.well r.0 _ r.2)
              (λ ks o f found. safe_if _
              (λ t. safe_before (safe_set_object k.well r.0 (record o { elements = set o.elements (index_of i) v }) (known_later f r.0 _ r.2 ∙ ap (λ (n : ObjectType). Some n) (sym found.0))
              (λ js g. object_later w g (record o { elements = set o.elements (index_of i) v }) (stored_well ks o v found.0 found.1 (type_if_later w f (element_of w class) v is))))
              (λ js g. safe_pure Void (λ hs j. tt)))
              (λ t. safe_fault k.well p fault_kind.Index at))))
        ]

  -- ---- the features

  module _ (base : List ObjectType) (x : Point) (at : Pos) (class : ℕ) (own : List ParamType) (self : Value) (given : List (Option Value)) (me : HasType w base self class) (h : GivenWell w base false own given) where
    abbrev Call : BuiltinFeature → List Value → Type 0
    Call b values = Safe w base x Value (λ ks v. HasTypeIf w ks (result_type w class b) v) (builtin_call p (Some class) at self values b)

    with_none : (b : BuiltinFeature) → 0 ≡ length own → Call b [] → Call b (only_given given)
    with_none b n m = subst (Call b) (sym (no_values w base own given n h)) m

    with_one : (b : BuiltinFeature) (ty : ℕ) → 1 ≡ length own → in_parameter (Some ty) ≡ slice_get own 0 → ((v : Value) → HasType w base v ty → Call b (v ∷ [])) → Call b (only_given given)
    with_one b ty n e m = let one = one_value w base ty own given n e h in subst (Call b) (sym one.1) (m one.0 one.2)

    with_two : (b : BuiltinFeature) (ty other : ℕ) → 2 ≡ length own → in_parameter (Some ty) ≡ slice_get own 0 → in_parameter (Some other) ≡ slice_get own 1 → ((v u : Value) → HasType w base v ty → HasType w base u other → Call b (v ∷ u ∷ [])) → Call b (only_given given)
    with_two b ty other n e f m = let two = two_values w base ty other own given n e f h in subst (Call b) (sym two.2) (m two.0 two.1 two.3 two.4)

    -- what the receiver is, where it is of a given class
    self_int : (class == int_type) ≡ true → (z : ℤ) × (as_int self ≡ Some z)
    self_int c = int_seen base self (subst (HasType w base self) (eqb-true class int_type c) me)

    self_truth : (class == bool_type) ≡ true → (b : Bool) × (as_truth self ≡ Some b)
    self_truth c = truth_seen base self (subst (HasType w base self) (eqb-true class bool_type c) me)

    self_char : (class == char_type) ≡ true → (byte : ℕ) × (as_char self ≡ Some byte)
    self_char c = char_seen base self (subst (HasType w base self) (eqb-true class char_type c) me)

    self_text : (class == str_type) ≡ true → (bytes : List ℕ) × (as_text self ≡ Some bytes)
    self_text c = text_form k base self (subst (HasType w base self) (eqb-true class str_type c) me)

    alone : {A : Type 0} {P : List ObjectType → Value → Type 0} {f : A → Eval Value} (o : Option A) → (a : A) × (o ≡ Some a) → ((a : A) → Safe w base x Value P (f a)) → Safe w base x Value P (or_stuck o >>= f)
    alone {f = f} o a m = safe_with f a.0 a.1 (m a.0)

    pair : {A : Type 0} {P : List ObjectType → Value → Type 0} {f : A → A → Eval Value} (o q : Option A) → (a : A) × (o ≡ Some a) → (b : A) × (q ≡ Some b) → ((a b : A) → Safe w base x Value P (f a b)) → Safe w base x Value P (or_stuck o >>= (λ a. or_stuck q >>= f a))
    pair {f = f} o q a b m = safe_with (λ c. or_stuck q >>= f c) a.0 a.1 (safe_with (f a.0) b.0 b.1 (m a.0 b.0))

    -- a feature on two numbers
    ints : {P : List ObjectType → Value → Type 0} {f : ℤ → ℤ → Eval Value} (v : Value) → (class == int_type) ≡ true → HasType w base v int_type → ((a b : ℤ) → Safe w base x Value P (f a b)) → Safe w base x Value P (or_stuck (as_int self) >>= (λ a. or_stuck (as_int v) >>= f a))
    ints v c t m = pair (as_int self) (as_int v) (self_int c) (int_seen base v t) m

    chars : {P : List ObjectType → Value → Type 0} {f : ℕ → ℕ → Eval Value} (v : Value) → (class == char_type) ≡ true → HasType w base v char_type → ((a b : ℕ) → Safe w base x Value P (f a b)) → Safe w base x Value P (or_stuck (as_char self) >>= (λ a. or_stuck (as_char v) >>= f a))
    chars v c t m = pair (as_char self) (as_char v) (self_char c) (char_seen base v t) m

    safe_feature : (b : BuiltinFeature) → is_of w class b ≡ true → arity_of b ≡ length own → ((place : ℕ) → builtin_parameter w class b place ≡ slice_get own place) → Call b (only_given given)
    safe_feature BoolIsEq c n e =
        with_one BoolIsEq bool_type n (e 0) (λ v t. pair (as_truth self) (as_truth v) (self_truth c) (truth_seen base v t) (λ a b. safe_pure _ (λ ks f. refl)))
    safe_feature BoolNot c n e = with_none BoolNot n (alone (as_truth self) (self_truth c) (λ a. safe_pure _ (λ ks f. refl)))
    safe_feature IntPlus c n e = with_one IntPlus int_type n (e 0) (λ v t. ints v c t (λ a b. safe_whole (Some class) at self (v ∷ []) (a +ℤ b)))
    safe_feature IntMinus c n e = with_one IntMinus int_type n (e 0) (λ v t. ints v c t (λ a b. safe_whole (Some class) at self (v ∷ []) (a -ℤ b)))
    safe_feature IntTimes c n e = with_one IntTimes int_type n (e 0) (λ v t. ints v c t (λ a b. safe_whole (Some class) at self (v ∷ []) (a *ℤ b)))
    safe_feature IntNegate c n e = with_none IntNegate n (alone (as_int self) (self_int c) (λ a. safe_whole (Some class) at self [] (neg_ℤ a)))
    safe_feature IntDiv c n e = with_one IntDiv int_type n (e 0) (λ v t. ints v c t (safe_divided (Some class) at self (v ∷ []) int_div))
    safe_feature IntMod c n e = with_one IntMod int_type n (e 0) (λ v t. ints v c t (safe_divided (Some class) at self (v ∷ []) int_rem))
    safe_feature IntIsEq c n e = with_one IntIsEq int_type n (e 0) (λ v t. ints v c t (λ a b. safe_pure _ (λ ks f. refl)))
    safe_feature IntIsLt c n e = with_one IntIsLt int_type n (e 0) (λ v t. ints v c t (λ a b. safe_pure _ (λ ks f. refl)))
    safe_feature IntBand c n e = with_one IntBand int_type n (e 0) (λ v t. ints v c t (λ a b. safe_pure _ (λ ks f. refl)))
    safe_feature IntBor c n e = with_one IntBor int_type n (e 0) (λ v t. ints v c t (λ a b. safe_pure _ (λ ks f. refl)))
    safe_feature IntBxor c n e = with_one IntBxor int_type n (e 0) (λ v t. ints v c t (λ a b. safe_pure _ (λ ks f. refl)))
    safe_feature IntStr c n e = with_none IntStr n (alone (as_int self) (self_int c) (λ a. safe_new_text k.well at (signed_decimal a)))
    safe_feature IntChar c n e =
        with_none IntChar n (alone (as_int self) (self_int c) (λ a. safe_if _ (λ t. safe_pure (Char (index_of a)) (λ ks f. refl)) (λ t. safe_fault k.well p fault_kind.Overflow at)))
    safe_feature CharIsEq c n e = with_one CharIsEq char_type n (e 0) (λ v t. chars v c t (λ a b. safe_pure _ (λ ks f. refl)))
    safe_feature CharIsLt c n e = with_one CharIsLt char_type n (e 0) (λ v t. chars v c t (λ a b. safe_pure _ (λ ks f. refl)))
    safe_feature CharInt c n e = with_none CharInt n (alone (as_char self) (self_char c) (λ a. safe_pure _ (λ ks f. refl)))
    safe_feature CharStr c n e = with_none CharStr n (alone (as_char self) (self_char c) (λ a. safe_new_text k.well at (a ∷ [])))
    safe_feature StrSize c n e = with_none StrSize n (alone (as_text self) (self_text c) (λ a. safe_pure _ (λ ks f. refl)))
    safe_feature StrAget c n e =
        with_one StrAget int_type n (e 0) (λ v t. alone (as_text self) (self_text c) (λ a. alone (as_int v) (int_seen base v t) (safe_byte_at (Some class) at self (v ∷ []) a)))
    safe_feature StrCat c n e =
        with_one StrCat str_type n (e 0) (λ v t. pair (as_text self) (as_text v) (self_text c) (text_form k base v t) (λ a b. safe_long_text (Some class) at self (v ∷ []) (a ++ b)))
    safe_feature StrSubstring c n e =
        with_two StrSubstring int_type int_type n (e 0) (e 1)
        (λ v u t s. alone (as_text self) (self_text c) (λ a. alone (as_int v) (int_seen base v t) (λ i. alone (as_int u) (int_seen base u s) (safe_part (Some class) at self (v ∷ u ∷ []) a i))))
    safe_feature StrOf c n e =
        let ch = characters_is w w.characters c in
        with_two StrOf ch.0 int_type n (ap in_parameter (sym ch.1) ∙ e 0) (e 1)
        (λ v u t s. safe_with _ v refl (alone (as_int u) (int_seen base u s) (λ z. safe_then (safe_elements ch.0 v ch.2 t)
        (λ ks es f are. safe_text_of (Some class) at self (v ∷ u ∷ []) es z (subst (λ o. Each (HasTypeIf w ks o) es) ch.3 are)))))
    safe_feature OutPut c n e =
        with_one OutPut str_type n (e 0) (λ v t. let b = text_form k base v t in safe_before (safe_with _ b.0 b.1 (safe_put_text k.well 0 b.0)) (λ ks f. safe_pure Void (λ js g. tt)))
    safe_feature OutPutInt c n e =
        with_one OutPutInt int_type n (e 0) (λ v t. let z = int_seen base v t in safe_before (safe_with _ z.0 z.1 (safe_put_bytes k.well (signed_decimal z.0))) (λ ks f. safe_pure Void (λ js g. tt)))
    safe_feature OutPutChar c n e =
        with_one OutPutChar char_type n (e 0) (λ v t. let b = char_seen base v t in safe_before (safe_with _ b.0 b.1 (safe_put_byte k.well b.0)) (λ ks f. safe_pure Void (λ js g. tt)))
    safe_feature InGetByte c n e = with_none InGetByte n (safe_then (safe_get_byte k.well) (λ ks z f is. safe_pure (Int z) (λ js g. refl)))
    safe_feature SysObEq c n e =
        with_two SysObEq ob_type ob_type n (e 0) (e 1) (λ v u t s. safe_with _ v refl (safe_with _ u refl (safe_pure _ (λ ks f. refl))))
    safe_feature ArefAsize c n e = with_none ArefAsize n (safe_then (safe_elements class self c me) (λ ks es f are. safe_pure _ (λ js g. refl)))
    safe_feature ArefAget c n e =
        with_one ArefAget int_type n (e 0) (λ v t. alone (as_int v) (int_seen base v t) (λ i. safe_element base x class at (v ∷ []) i self (first_of (has_array w class) _ c) me))
    safe_feature ArefAset c n e =
        let elem = some_is (element_of w class) (second_of (has_array w class) _ c) in
        with_two ArefAset int_type elem.0 n (e 0) (ap in_parameter (sym elem.1) ∙ e 1)
        (λ v u t s. alone (as_int v) (int_seen base v t)
        (λ i. safe_with _ u refl (safe_set base x class at (v ∷ u ∷ []) i self u (first_of (has_array w class) _ c) me (subst (λ o. HasTypeIf w base o u) (sym elem.1) s))))
    safe_feature ArrayCreate c n e =
        with_one ArrayCreate int_type n (e 0) (λ v t. safe_with _ class refl (alone (as_int v) (int_seen base v t) (λ z. safe_new_array k at class z (array_objects k facts class c))))

  -- by its parameters and its result
  pub safe_builtin : {base : List ObjectType} {x : Point} (at : Pos) (class : ℕ) (b : BuiltinFeature) (own : List ParamType) (self : Value) (given : List (Option Value)) → Takes w class (target.Builtin b) own → HasType w base self class → GivenWell w base false own given → Safe w base x Value (λ ks v. HasTypeIf w ks (target_result w class (target.Builtin b)) v) (builtin_call p (Some class) at self (only_given given) b)
  safe_builtin {base} {x} at class b own self given takes me h =
      let counted = count_of (arity_of b) (is_of w class b) (length own) takes.arity in
      safe_feature base x at class own self given me h b counted.0 counted.1 takes.each
