-- Calls are safe: what they call, what they pass, what they do, and what they copy out.
use Rattle.std.proofs.Common.{◌≡◌, ◌≢◌, ℕ, suc, ◌+◌, ◌⊎◌, inl, inr, Bool, true, false, ◌&&◌, ◌==◌, if◌then◌else◌, List, [], ◌∷◌, length, find, Option, Some, None, slice_get, option_map, option_and_then, is_some, refl, sym, ap, subst, ◌∙◌, true≢false, eqb-true, arith}
use Rattle.std.specs.Option.{option_map_or}
use Rattle.std.proofs.lemmas.Option.{same_Some, none-some}
use Rattle.sa_ast.specs.declared.fault_kind.FaultKind.TheVariants as fault_kind
use Rattle.sa_ast.specs.declared.pos.Pos.{Pos}
use Rattle.sa_typed.specs.declared.feature.TypedCallee.{TypedCallee}
use Rattle.sa_typed.specs.declared.feature.TypedCallee.TheVariants as called
use Rattle.sa_typed.specs.declared.program.TypedImplementation.{TypedImplementation}
use Rattle.sa_typed.specs.declared.program.TypedSignature.{TypedSignature}
use Rattle.sa_typing.specs.declared.expr_type.ExprType.{ExprType}
use Rattle.sa_typing.specs.declared.expr_type.ExprType.TheVariants.{NoValue, Of, BoxedOf}
use Rattle.sa_typing.specs.declared.expr_type.ParamType.{ParamType}
use Rattle.sa_typing.specs.declared.expr_type.ResolvedCallee.{ResolvedCallee}
use Rattle.sa_typing.specs.declared.expr_type.ResolvedCallee.TheVariants as reach
use Rattle.sa_typing.specs.declared.call_type.CallType.{CallType}
use Rattle.sa_typing.specs.Rows.{Rows, is_supertype, is_strict_supertype, is_abstract, is_immutable, call_type_at}
use Rattle.sa_typing.specs.Builtins.{str_type}
use Rattle.sa_typing.specs.Calls.{reached, bound_by, arity, is_iter}
use Rattle.sa_typing.specs.ExprType.{agree, is_just, is_plain}
use Rattle.sa_typing.specs.Features.{is_concrete_class}
use Rattle.sa_typing.specs.Signatures.{params_conform, param_conforms, result_conforms}
use Rattle.sa_typing.specs.Targets.{is_target_iter, target_arity, target_parameter, target_result}
use Rattle.sa_typing.specs.Types.{call_types_alike}
use Rattle.sa_semantics.specs.Program as program
use Rattle.sa_semantics.specs.Program.{Program}
use Rattle.sa_semantics.specs.Value.{Value, Void, Int, Truth, Char, Text, Ref, Imm, Bound, Boxed, is_nothing, unboxed, as_bound}
use Rattle.sa_semantics.specs.State.{Binding}
use Rattle.sa_semantics.specs.Calls.{ResolvedCall, callee, dispatch, bound_to}
use Rattle.sa_type_safety.specs.Typing.{ObjectType, HeapExtends, HasType, Takes, Conform, IsCallee}
use Rattle.sa_type_safety.proofs.Facts.{first_of, second_of, one_of}
use Rattle.sa_type_safety.proofs.ProgramFacts.{ProgramFacts}
use Rattle.sa_type_safety.proofs.Worlds.{known_later, type_later, reached_later}
use Rattle.sa_type_safety.proofs.Safe.{Point, Safe, safe_then, safe_looking, safe_with, safe_if, safe_pure, safe_that, extends_trans}
use Rattle.sa_type_safety.proofs.SafeSteps.{safe_fault, safe_object_at}
use Rattle.sa_type_safety.proofs.Passing.{holds_above}
use Rattle.sa_type_safety.proofs.PassedArgs.{bound_object}
use Rattle.sa_type_safety.proofs.Dynamic.{dynamic_of}

-- ---- what expressions give

-- what an expression gives is a value of a type, or a boxed one of an immutable class
abbrev pub GivenIs : Rows → List ObjectType → ExprType → Value → Type 0
GivenIs w ks NoValue v = Unit {0}
GivenIs w ks (Of ty) v = HasType w ks v ty
GivenIs w ks (BoxedOf own) v = (u : Value) × (v ≡ Boxed u) × HasType w ks u own × (is_immutable w own ≡ true)

-- what a call resolves to
pub record CalleeWell (w : Rows) (ks : List ObjectType) (of : TypedCallee) (bound : Option ℕ) (iter : Bool) (c : ResolvedCall) : Type 0 where
  pub class : ℕ
  pub is : c.class ≡ Some class
  pub self : HasType w ks c.self class
  pub own : List ParamType
  pub takes : Takes w class c.target own
  pub reached : IsCallee w ks of bound class c.target own c.through
  pub iters : is_target_iter w c.target ≡ iter

abbrev pub bound_of : ResolvedCallee → Option ℕ
bound_of (reach.Bound ty) = Some ty
bound_of r = None

module _ {w : Rows} {p : Program} (k : ProgramFacts w p) where
  pub given_later_is : {old new : List ObjectType} → HeapExtends old new → (g : ExprType) (v : Value) → GivenIs w old g v → GivenIs w new g v
  given_later_is e NoValue v h = tt
  given_later_is e (Of ty) v h = type_later w e v ty h
  given_later_is e (BoxedOf own) v h = (h.0, h.1, type_later w e h.0 own h.2, h.3)

  abbrev pub callee_later : {old new : List ObjectType} (of : TypedCallee) (bound : Option ℕ) (iter : Bool) (c : ResolvedCall) → HeapExtends old new → CalleeWell w old of bound iter c → CalleeWell w new of bound iter c
  callee_later of bound iter c e h = record {
    class = h.class;
    is = h.is;
    self = type_later w e c.self h.class h.self;
    own = h.own;
    takes = h.takes;
    reached = reached_later w e of bound h.class c.target h.own c.through h.reached;
    iters = h.iters;
  }

  -- the same of an iter or of a routine, as it is known
  abbrev pub callee_as : {ks : List ObjectType} (of : TypedCallee) (bound : Option ℕ) (a b : Bool) (c : ResolvedCall) → a ≡ b → CalleeWell w ks of bound a c → CalleeWell w ks of bound b c
  callee_as of bound a b c e h = record {
    class = h.class;
    is = h.is;
    self = h.self;
    own = h.own;
    takes = h.takes;
    reached = h.reached;
    iters = h.iters ∙ e;
  }

  plain_is : (ty : ℕ) (g : ExprType) → is_plain ty g ≡ true → g ≡ Of ty
  plain_is ty NoValue e = absurd (true≢false (sym e))
  plain_is ty (Of own) e = ap (λ n. Of n) (eqb-true own ty e)
  plain_is ty (BoxedOf own) e = absurd (true≢false (sym e))

  plain_value : (ks : List ObjectType) (ty : ℕ) (g : ExprType) (v : Value) → is_plain ty g ≡ true → GivenIs w ks g v → HasType w ks v ty
  plain_value ks ty g v e h = subst (λ (i : ExprType). GivenIs w ks i v) (plain_is ty g e) h

  agree_is : (a b : Bool) → agree a b ≡ true → a ≡ b
  agree_is true true e = refl
  agree_is false false e = refl
  agree_is true false e = absurd (true≢false (sym e))
  agree_is false true e = absurd (true≢false (sym e))

  just_is : (n : ℕ) (o : Option ℕ) → is_just n o ≡ true → o ≡ Some n
  just_is n None e = absurd (true≢false (sym e))
  just_is n (Some found) e = ap (λ m. Some m) (eqb-true found n e)

  -- ---- implementations

  conform_from : (i : TypedImplementation) (place : ℕ) (params own : List ParamType) → params_conform w i place params ≡ true → ((j : ℕ) → target_parameter w i.ty i.target (place + j) ≡ slice_get own j) → length params ≡ length own → Conform w params own
  conform_from i place [] [] c e n = tt
  conform_from i place [] (o ∷ own) c e n = absurd (omega (arith, n))
  conform_from i place (q ∷ params) [] c e n = absurd (omega (arith, n))
  conform_from i place (q ∷ params) (o ∷ own) c e n =
      let here : target_parameter w i.ty i.target place ≡ Some o = subst (λ m. target_parameter w i.ty i.target m ≡ Some o) (omega arith) (e 0) in (
        subst (λ x. param_conforms w q x ≡ true) here (first_of (param_conforms w q (target_parameter w i.ty i.target place)) _ c),
        conform_from i (place + 1) params own (second_of (param_conforms w q (target_parameter w i.ty i.target place)) _ c)
            (λ j. subst (λ m. target_parameter w i.ty i.target m ≡ slice_get own j) (omega arith) (e (suc j))) (omega (arith, n)),
      )

  is_there : {A : Type 0} (o : Option A) (a : A) → o ≡ Some a → is_some o ≡ true
  is_there o a e = ap is_some e

  -- the implementation of a signature of an abstract type by a concrete subtype
  implements : (n : ℕ) (s : TypedSignature) (own : ℕ) → slice_get w.signatures n ≡ Some s → is_strict_supertype w s.ty own ≡ true → is_abstract w own ≡ false
      → (i : TypedImplementation) × (shape : CallType) × (params : List ParamType) × (find (λ (j : TypedImplementation). j.ty == own) s.impls ≡ Some i) × (call_type_at w.shapes n ≡ Some shape)
      × Takes w own i.target params × Conform w shape.params params × (result_conforms w shape.result (target_result w own i.target) ≡ true)
      × (is_target_iter w i.target ≡ shape.iter)
  implements n s own e above concrete =
      let found = k.implemented n s own e above concrete in
      let i = found.0 in
      let shape = found.1 in
      let below = second_of (is_concrete_class w i.ty) _ found.5 in
      let iters = second_of (is_strict_supertype w s.ty i.ty) _ below in
      let arities = second_of (agree (is_target_iter w i.target) shape.iter) _ iters in
      let conform = second_of (is_just (length shape.params) (target_arity w i.ty i.target)) _ arities in
      let gives = second_of (params_conform w i 0 shape.params) _ conform in
      let has : target_arity w i.ty i.target ≡ Some (length shape.params) = just_is (length shape.params) (target_arity w i.ty i.target) (first_of (is_just (length shape.params) (target_arity w i.ty i.target)) _ arities) in
      let taken = k.taken i.ty i.target (is_there (target_arity w i.ty i.target) (length shape.params) has) in
      let long : length shape.params ≡ length taken.0 = same_Some (length shape.params) (length taken.0) (sym has ∙ taken.1.arity) in (
        i,
        shape,
        taken.0,
        found.2,
        found.4,
        subst (λ m. Takes w m i.target taken.0) found.3 taken.1,
        conform_from i 0 shape.params taken.0 (first_of (params_conform w i 0 shape.params) _ conform) (λ j. subst (λ m. target_parameter w i.ty i.target m ≡ slice_get taken.0 j) (omega arith) (taken.1.each j)) long,
        subst (λ m. result_conforms w shape.result (target_result w m i.target) ≡ true) found.3 gives,
        agree_is (is_target_iter w i.target) shape.iter (first_of (agree (is_target_iter w i.target) shape.iter) _ iters),
      )

  -- ---- what is called

  safe_dispatched : {base : List ObjectType} {x : Point} (at : Pos) (n : ℕ) (s : TypedSignature) (shape : CallType) (v : Value) → slice_get w.signatures n ≡ Some s → call_type_at w.shapes n ≡ Some shape → HasType w base v s.ty → Safe w base x ResolvedCall (λ ks c. CalleeWell w ks (called.Dispatch n) None shape.iter c) (dispatch p at n v)
  safe_dispatched {base} at n s shape v e shaped h =
      safe_if (is_nothing v) (λ t. safe_fault k.well p fault_kind.Void at)
      (λ t. safe_with _ (program.signature_of s) (k.signature_at n s e)
      (safe_looking _ (λ st g it.
      let dynamic = dynamic_of k st.objects v s.ty t (type_later w g v s.ty h) in
      let abstract = k.signature_abstract n s e in
      let above : is_strict_supertype w s.ty dynamic.own ≡ true =
      elim (one_of (s.ty == dynamic.own) (is_strict_supertype w s.ty dynamic.own) dynamic.held) as (λ x. is_strict_supertype w s.ty dynamic.own ≡ true)
      [ inl same ↦ absurd (true≢false (sym (subst (λ m. is_abstract w m ≡ true) (eqb-true s.ty dynamic.own same) abstract) ∙ dynamic.concrete)) | inr is ↦ is ] in
      let found = implements n s dynamic.own e above dynamic.concrete in
      let same : found.1 ≡ shape = same_Some found.1 shape (sym found.4 ∙ shaped) in
      safe_with _ dynamic.own dynamic.is
      (safe_with _ found.0 found.3
      (safe_pure _ (λ ks f. record {
        class = dynamic.own;
        is = refl;
        self = type_later w f (unboxed v) dynamic.own dynamic.inside;
        own = found.2;
        takes = found.5;
        reached = (s, found.1, e, found.4, found.6, found.7);
        iters = found.8 ∙ ap (λ (i : CallType). i.iter) same;
      }))))))

  -- ---- bound values

  -- all subtypes of a bound type are bound types
  not_below : (upper lower : ℕ) (shape : CallType) → call_type_at w.bound upper ≡ Some shape → call_type_at w.bound lower ≡ None → is_supertype w upper lower ≡ true → ⊥
  not_below upper lower shape e none h =
      elim (one_of (upper == lower) (is_strict_supertype w upper lower) h) as (λ x. ⊥) [
        | inl same ↦ none-some shape (sym none ∙ ap (call_type_at w.bound) (sym (eqb-true upper lower same)) ∙ e)
        | inr is ↦ elim (k.above_is upper lower is) as (λ x. ⊥)
            [ inl c ↦ none-some shape (sym (k.abstract_unbound upper c) ∙ e) | inr c ↦ none-some c.0 (sym none ∙ c.2) ]
      ]

  -- the call types of a bound type and of a subtype of it are alike, or the same
  pub held_alike : (upper lower : ℕ) (a b : CallType) → call_type_at w.bound upper ≡ Some a → call_type_at w.bound lower ≡ Some b → is_supertype w upper lower ≡ true → (b ≡ a) ⊎ (call_types_alike w b a ≡ true)
  held_alike upper lower a b e f h =
      elim (one_of (upper == lower) (is_strict_supertype w upper lower) h) as (λ x. (b ≡ a) ⊎ (call_types_alike w b a ≡ true)) [
        | inl same ↦ inl (same_Some b a (sym f ∙ ap (call_type_at w.bound) (sym (eqb-true upper lower same)) ∙ e))
        | inr is ↦ elim (k.above_is upper lower is) as (λ x. (b ≡ a) ⊎ (call_types_alike w b a ≡ true)) [
          | inl c ↦ absurd (none-some a (sym (k.abstract_unbound upper c) ∙ e))
          | inr c ↦ inr (subst (λ i. call_types_alike w i a ≡ true) (same_Some c.0 b (sym c.2 ∙ f)) (subst (λ i. call_types_alike w c.0 i ≡ true) (same_Some c.1 a (sym c.3 ∙ e)) c.4))
        ]
      ]

  iter_held : (upper lower : ℕ) (a b : CallType) → call_type_at w.bound upper ≡ Some a → call_type_at w.bound lower ≡ Some b → is_supertype w upper lower ≡ true → b.iter ≡ a.iter
  iter_held upper lower a b e f h =
      elim (held_alike upper lower a b e f h) as (λ x. b.iter ≡ a.iter)
      [ inl same ↦ ap (λ (i : CallType). i.iter) same | inr alike ↦ agree_is b.iter a.iter (first_of (agree b.iter a.iter) _ alike) ]

  -- a value of a bound type is void or a bound value
  bound_value_of : (ks : List ObjectType) (ty : ℕ) (upper : CallType) (v : Value) → call_type_at w.bound ty ≡ Some upper → is_nothing v ≡ false → HasType w ks v ty → (object : ℕ) × (own : ℕ) × (b : Binding) × (as_bound v ≡ Some object) × (slice_get ks object ≡ Some (record { ty = own; binding = Some b })) × (is_supertype w ty own ≡ true)
  bound_value_of ks ty upper Void e n h = absurd (true≢false n)
  bound_value_of ks ty upper (Int z) e n h = absurd (none-some upper (sym k.int_plain.1 ∙ ap (call_type_at w.bound) (sym h) ∙ e))
  bound_value_of ks ty upper (Truth b) e n h = absurd (none-some upper (sym k.bool_plain.1 ∙ ap (call_type_at w.bound) (sym h) ∙ e))
  bound_value_of ks ty upper (Char byte) e n h = absurd (none-some upper (sym k.char_plain.1 ∙ ap (call_type_at w.bound) (sym h) ∙ e))
  bound_value_of ks ty upper (Text bytes) e n h = absurd (not_below ty str_type upper e k.str_plain.1 h)
  bound_value_of ks ty upper (Ref number) e n h = absurd (not_below ty h.0 upper e (k.object_plain h.0 h.2).1 h.3)
  bound_value_of ks ty upper (Imm named inside) e n h =
      absurd (none-some upper (sym (k.immutable_plain named (first_of (is_immutable w named) _ h.1)).1 ∙ ap (call_type_at w.bound) h.0 ∙ e))
  bound_value_of ks ty upper (Bound number) e n h = (number, h.0, h.1, refl, h.2, h.4)
  bound_value_of ks ty upper (Boxed v) e n h = absurd (not_below ty h.0 upper e (k.immutable_plain h.0 h.2).1 (holds_above k ty h.0 h.3))

  safe_bound_to : {base : List ObjectType} {x : Point} (at : Pos) (object ty own : ℕ) (b : Binding) (upper : CallType) → slice_get base object ≡ Some (record { ty = own; binding = Some b }) → call_type_at w.bound ty ≡ Some upper → is_supertype w ty own ≡ true → Safe w base x ResolvedCall (λ ks c. CalleeWell w ks called.Bound (Some ty) upper.iter c) (bound_to p at object)
  safe_bound_to at object ty own b upper known e held =
      safe_then (safe_object_at k.well object _ known)
      (λ ks o f found.
      let binds = bound_object k ks o own b found.0 found.1 in
      safe_with _ b (ap (λ (n : ObjectType). n.binding) found.0)
      (safe_with _ binds.0 (ap (λ list. slice_get list 0) binds.2)
      (safe_pure _ (λ js g. record {
        class = b.class;
        is = refl;
        self = type_later w g binds.0 b.class binds.3.of_class;
        own = binds.3.own;
        takes = binds.3.takes;
        reached = (object, own, b, refl, known_later (extends_trans f g) object _ known, refl, refl, (λ n same. subst (λ m. is_supertype w m own ≡ true) (same_Some ty n same) held));
        iters = agree_is (is_target_iter w b.target) binds.3.shape.iter binds.3.iter ∙ iter_held ty own upper binds.3.shape e binds.3.is held;
      }))))

  pub is_if : {A : Type 0} (b : Bool) (a r : A) → (if b then Some a else None) ≡ Some r → (b ≡ true) × (a ≡ r)
  is_if true a r e = (refl, same_Some a r e)
  is_if false a r e = absurd (none-some r e)

  pub some_signature : (n : ℕ) (g : ExprType) (o : Option TypedSignature) (r : ResolvedCallee) → slice_get w.signatures n ≡ o → option_and_then (λ (s : TypedSignature). if is_plain s.ty g then Some (reach.Signature n) else None) o ≡ Some r → (s : TypedSignature) × (slice_get w.signatures n ≡ Some s) × (reach.Signature n ≡ r) × (is_plain s.ty g ≡ true)
  some_signature n g None r e f = absurd (none-some r f)
  some_signature n g (Some s) r e f = let tests = is_if (is_plain s.ty g) (reach.Signature n) r f in (s, e, tests.1, tests.0)

  some_of : {A : Type 0} (o : Option A) → (o ≡ None → ⊥) → (a : A) × (o ≡ Some a)
  some_of None h = absurd (h refl)
  some_of (Some a) h = (a, refl)

  -- a signature that has parameters has a call type
  signature_shaped : (n : ℕ) → arity w (reach.Signature n) ≢ None → (s : CallType) × (call_type_at w.shapes n ≡ Some s)
  signature_shaped n h = some_of (call_type_at w.shapes n) (λ e. h (ap (option_map (λ (s : CallType). length s.params)) e))

  pub bound_shaped : (ty : ℕ) → arity w (reach.Bound ty) ≢ None → (s : CallType) × (call_type_at w.bound ty ≡ Some s)
  bound_shaped ty h = some_of (call_type_at w.bound ty) (λ e. h (ap (option_map (λ (s : CallType). length s.params)) e))

  pub bound_reached : (g : ExprType) (r : ResolvedCallee) → bound_by w g ≡ Some r → (ty : ℕ) × (g ≡ Of ty) × (reach.Bound ty ≡ r)
  bound_reached NoValue r e = absurd (none-some r e)
  bound_reached (BoxedOf own) r e = absurd (none-some r e)
  bound_reached (Of ty) r e = (ty, refl, (is_if (is_some (call_type_at w.bound ty)) (reach.Bound ty) r e).1)

  -- what a call resolves to on a receiver that is well typed
  pub safe_callee : {base : List ObjectType} {x : Point} (at : Pos) (of : TypedCallee) (g : ExprType) (r : ResolvedCallee) (v : Value) → reached w of g ≡ Some r → GivenIs w base g v → arity w r ≢ None → Safe w base x ResolvedCall (λ ks c. CalleeWell w ks of (bound_of r) (is_iter w r) c) (callee p at of v)
  safe_callee {base} {x} at (called.Static t class) g r v e h some =
      let tests = is_if (is_plain class g && is_some (target_arity w class t)) (reach.Target t class) r e in
      let taken = k.taken class t (second_of (is_plain class g) (is_some (target_arity w class t)) tests.0) in
      subst (λ (q : ResolvedCallee). Safe w base x ResolvedCall (λ ks c. CalleeWell w ks (called.Static t class) (bound_of q) (is_iter w q) c) (callee p at (called.Static t class) v)) tests.1
      (safe_pure _ (λ ks f. record {
        class = class;
        is = refl;
        self = type_later w f v class (plain_value base class g v (first_of (is_plain class g) (is_some (target_arity w class t)) tests.0) h);
        own = taken.0;
        takes = taken.1;
        reached = (refl, refl);
        iters = refl;
      }))
  safe_callee {base} {x} at (called.Dispatch n) g r v e h some =
      let found = some_signature n g (slice_get w.signatures n) r refl e in
      let shaped = signature_shaped n (subst (λ (q : ResolvedCallee). arity w q ≢ None) (sym found.2) some) in
      subst (λ (q : ResolvedCallee). Safe w base x ResolvedCall (λ ks c. CalleeWell w ks (called.Dispatch n) (bound_of q) (is_iter w q) c) (callee p at (called.Dispatch n) v)) found.2
      (safe_that (safe_dispatched at n found.0 shaped.0 v found.1 shaped.1 (plain_value base found.0.ty g v found.3 h))
      (λ ks c f well. subst (λ b. CalleeWell w ks (called.Dispatch n) None b c) (sym (ap (λ o. option_map_or (λ (s : CallType). s.iter) o false) shaped.1)) well))
  safe_callee {base} {x} at called.Bound g r v e h some =
      let found = bound_reached g r e in
      let shaped = bound_shaped found.0 (subst (λ (q : ResolvedCallee). arity w q ≢ None) (sym found.2) some) in
      let typed : HasType w base v found.0 = subst (λ (i : ExprType). GivenIs w base i v) found.1 h in
      subst (λ (q : ResolvedCallee). Safe w base x ResolvedCall (λ ks c. CalleeWell w ks called.Bound (bound_of q) (is_iter w q) c) (callee p at called.Bound v)) found.2
      (safe_if (is_nothing v) (λ t. safe_fault k.well p fault_kind.Void at)
      (λ t. let is = bound_value_of base found.0 shaped.0 v shaped.1 t typed in
      safe_with _ is.0 is.3
      (safe_that (safe_bound_to at is.0 found.0 is.1 is.2 shaped.0 is.4 shaped.1 is.5)
      (λ ks c f well. subst (λ b. CalleeWell w ks called.Bound (Some found.0) b c) (sym (ap (λ o. option_map_or (λ (s : CallType). s.iter) o false) shaped.1)) well))))
