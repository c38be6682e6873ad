-- Calls are safe as a whole: from a receiver and arguments that are well typed to a result of its type.
use Rattle.std.proofs.Common.{◌≡◌, ℕ, ◌⊎◌, inl, inr, Bool, true, false, not, ◌&&◌, ◌==◌, List, [], ◌∷◌, length, Option, Some, None, slice_get, option_and_then, is_some, refl, sym, ap, ap₂, subst, ◌∙◌, true≢false, eqb-true}
use Rattle.std.specs.Cmp.Lexicographic.{pointwise}
use Rattle.std.proofs.lemmas.Option.{same_Some, none-some}
use Rattle.sa_ast.specs.declared.pos.Pos.{Pos}
use Rattle.sa_ast.specs.declared.ty.Mode.{Mode}
use Rattle.sa_ast.specs.declared.ty.Mode.TheVariants as mode
use Rattle.sa_ast.specs.TypeEquality.{same_mode}
use Rattle.sa_typed.specs.declared.feature.TypedCallee.{TypedCallee}
use Rattle.sa_typed.specs.declared.feature.TypedCallee.TheVariants as called
use Rattle.sa_typed.specs.declared.feature.Target.{Target}
use Rattle.sa_typing.specs.declared.expr_type.ExprType.{ExprType}
use Rattle.sa_typing.specs.declared.expr_type.ParamType.{ParamType}
use Rattle.sa_typing.specs.declared.expr_type.ResolvedCallee.{ResolvedCallee}
use Rattle.sa_typing.specs.declared.expr_type.ResolvedCallee.TheVariants as reach
use Rattle.sa_typing.specs.declared.call_type.CallType.{CallType}
use Rattle.sa_typing.specs.Rows.{Rows, is_supertype, is_strict_supertype, is_immutable, call_type_at}
use Rattle.sa_typing.specs.Calls.{reached, arity, parameter, result_type, is_iter}
use Rattle.sa_typing.specs.ExprType.{agree, is_plain}
use Rattle.sa_typing.specs.Passing.{is_value_mode}
use Rattle.sa_typing.specs.Targets.{target_arity, target_result}
use Rattle.sa_typing.specs.Types.{is_alike, is_variance_alike, is_param_alike, is_result_alike, call_types_alike}
use Rattle.sa_semantics.specs.Program.{Program}
use Rattle.sa_semantics.specs.Value.{Value}
use Rattle.sa_semantics.specs.State.{Continuation, Completion}
use Rattle.sa_semantics.specs.Steps.{Eval}
use Rattle.sa_semantics.specs.Calls as calls
use Rattle.sa_semantics.specs.Calls.{ResolvedCall, call}
use Rattle.sa_type_safety.specs.Typing.{ObjectType, IsLocal, HasType, HasTypeIf, Takes, IsCallee}
use Rattle.sa_type_safety.proofs.Facts.{first_of, second_of, one_of, not_true}
use Rattle.sa_type_safety.proofs.ProgramFacts.{ProgramFacts}
use Rattle.sa_type_safety.proofs.Worlds.{type_later}
use Rattle.sa_type_safety.proofs.Safe.{Point, Safe, safe_then, safe_that}
use Rattle.sa_type_safety.proofs.Passing.{GivenWell, ArgThat, given_later, same_modes, holds_itself, holds_above, goes_up, Came, BackWell}
use Rattle.sa_type_safety.proofs.PassedArgs.{IsSeen, same_lists, safe_handed, safe_brought, hands_later}
use Rattle.sa_type_safety.proofs.SafeRoutines.{IsSafe}
use Rattle.sa_type_safety.proofs.SafeTargets.{safe_reached}
use Rattle.sa_type_safety.proofs.SafeCalls.{GivenIs, bound_of, is_if, some_signature, bound_reached, bound_shaped, safe_callee}

-- ---- the parameters of what a call resolves to

pub record ParamsAre (w : Rows) (r : ResolvedCallee) (params : List ParamType) : Type 0 where
  pub arity : arity w r ≡ Some (length params)
  pub each : (place : ℕ) → parameter w r place ≡ slice_get params place

module _ {w : Rows} {p : Program} (k : ProgramFacts w p) where
  -- ---- between a bound type and a subtype of it

  value_alike : (ks : List ObjectType) (v : Value) (upper lower : ℕ) → is_alike w lower upper ≡ true → HasType w ks v lower → HasType w ks v upper
  value_alike ks v upper lower e h =
      elim (one_of (lower == upper) (not (is_immutable w lower) && (not (is_immutable w upper) && is_strict_supertype w upper lower)) e) as (λ x. HasType w ks v upper) [
        | inl same ↦ subst (HasType w ks v) (eqb-true lower upper same) h
        | inr b ↦ goes_up k ks v lower upper (not_true (is_immutable w lower) (first_of (not (is_immutable w lower)) _ b))
            (holds_above k upper lower (second_of (not (is_immutable w upper)) _ (second_of (not (is_immutable w lower)) _ b))) h
      ]

  alike_holds : (upper lower : ℕ) → is_alike w lower upper ≡ true → is_supertype w upper lower ≡ true
  alike_holds upper lower e =
      elim (one_of (lower == upper) (not (is_immutable w lower) && (not (is_immutable w upper) && is_strict_supertype w upper lower)) e) as (λ x. is_supertype w upper lower ≡ true) [
        | inl same ↦ subst (λ n. is_supertype w n lower ≡ true) (eqb-true lower upper same) (holds_itself k lower)
        | inr b ↦ holds_above k upper lower (second_of (not (is_immutable w upper)) _ (second_of (not (is_immutable w lower)) _ b))
      ]

  arg_alike : (ks : List ObjectType) (again : Bool) (m : Mode) (lower upper : ℕ) (v : Option Value) → is_variance_alike w m lower upper ≡ true → ArgThat (λ u. HasType w ks u upper) again m v → ArgThat (λ u. HasType w ks u lower) again m v
  arg_alike ks again mode.In lower upper None e h = h
  arg_alike ks again mode.In lower upper (Some v) e h = value_alike ks v lower upper e h
  arg_alike ks true mode.Once lower upper None e h = tt
  arg_alike ks false mode.Once lower upper None e h = h
  arg_alike ks true mode.Once lower upper (Some v) e h = value_alike ks v lower upper e h
  arg_alike ks false mode.Once lower upper (Some v) e h = value_alike ks v lower upper e h
  arg_alike ks again mode.Out lower upper None e h = tt
  arg_alike ks again mode.Out lower upper (Some v) e h = h
  arg_alike ks again mode.Inout lower upper None e h = h
  arg_alike ks again mode.Inout lower upper (Some v) e h = subst (HasType w ks v) (sym (eqb-true lower upper e)) h

  pub given_alike : (ks : List ObjectType) (again : Bool) (lower upper : List ParamType) (given : List (Option Value)) → pointwise (is_param_alike w) lower upper ≡ true → GivenWell w ks again upper given → GivenWell w ks again lower given
  given_alike ks again [] [] [] e h = tt
  given_alike ks again [] [] (v ∷ given) e h = h
  given_alike ks again [] (q ∷ upper) given e h = absurd (true≢false (sym e))
  given_alike ks again (o ∷ lower) [] given e h = absurd (true≢false (sym e))
  given_alike ks again (o ∷ lower) (q ∷ upper) [] e h = h
  given_alike ks again (o ∷ lower) (q ∷ upper) (v ∷ given) e h =
      let alike = first_of (is_param_alike w o q) _ e in
      let modes = same_modes o.mode q.mode (first_of (same_mode o.mode q.mode) _ alike) in (
        arg_alike ks again o.mode o.ty q.ty v (second_of (same_mode o.mode q.mode) _ alike) (subst (λ m. ArgThat (λ u. HasType w ks u q.ty) again m v) (sym modes) h.0),
        given_alike ks again lower upper given (second_of (is_param_alike w o q) _ e) h.1,
      )

  back_alike : (m : Mode) (vars : List ℕ) (lower upper var : ℕ) → is_variance_alike w m lower upper ≡ true → is_value_mode m ≡ false → (ty : ℕ) × (slice_get vars var ≡ Some ty) × (is_supertype w ty upper ≡ true) → (ty : ℕ) × (slice_get vars var ≡ Some ty) × (is_supertype w ty lower ≡ true)
  back_alike mode.In vars lower upper var e g h = absurd (true≢false g)
  back_alike mode.Once vars lower upper var e g h = absurd (true≢false g)
  back_alike mode.Out vars lower upper var e g h = (h.0, h.1, k.above_above h.0 upper lower h.2 (alike_holds upper lower e))
  back_alike mode.Inout vars lower upper var e g h = (h.0, h.1, subst (λ n. is_supertype w h.0 n ≡ true) (sym (eqb-true lower upper e)) h.2)

  pub backs_alike : (vars : List ℕ) (lower upper : List ParamType) (back : List (Option ℕ)) → pointwise (is_param_alike w) lower upper ≡ true → BackWell w vars upper back → BackWell w vars lower back
  backs_alike vars [] [] back e h = h
  backs_alike vars [] (q ∷ upper) back e h = absurd (true≢false (sym e))
  backs_alike vars (o ∷ lower) [] back e h = absurd (true≢false (sym e))
  backs_alike vars (o ∷ lower) (q ∷ upper) [] e h = h
  backs_alike vars (o ∷ lower) (q ∷ upper) (None ∷ back) e h =
      let alike = first_of (is_param_alike w o q) _ e in
      let modes = same_modes o.mode q.mode (first_of (same_mode o.mode q.mode) _ alike) in
      (subst (λ m. is_value_mode m ≡ true) (sym modes) h.0, backs_alike vars lower upper back (second_of (is_param_alike w o q) _ e) h.1)
  backs_alike vars (o ∷ lower) (q ∷ upper) (Some var ∷ back) e h =
      let alike = first_of (is_param_alike w o q) _ e in
      let modes = same_modes o.mode q.mode (first_of (same_mode o.mode q.mode) _ alike) in
      let given = subst (λ m. is_value_mode m ≡ false) (sym modes) h.0.0 in
      ((given, back_alike o.mode vars o.ty q.ty var (second_of (same_mode o.mode q.mode) _ alike) given h.0.1), backs_alike vars lower upper back (second_of (is_param_alike w o q) _ e) h.1)

  result_alike : (ks : List ObjectType) (lower upper : Option ℕ) (v : Value) → is_result_alike w lower upper ≡ true → HasTypeIf w ks lower v → HasTypeIf w ks upper v
  result_alike ks (Some lower) (Some upper) v e h = value_alike ks v upper lower e h
  result_alike ks None None v e h = tt
  result_alike ks (Some lower) None v e h = tt
  result_alike ks None (Some upper) v e h = absurd (true≢false (sym e))

  -- ---- what the caller sees and what the callee's side takes

  -- What the caller sees of what its call resolves to, and what is seen of the target itself: the same, but for bound types.
  pub record Sees (ks : List ObjectType) (vars : List ℕ) (again : Bool) (of : TypedCallee) (bound : Option ℕ) (c : ResolvedCall) (class : ℕ) (t : Target) (own : List ParamType) (values : List (Option Value)) (variables : List (Option ℕ)) (seen : Option ℕ) : Type 0 where
    pub params : List ParamType
    pub result : Option ℕ
    pub sees : IsSeen w ks of class t own c.through params result
    pub given : GivenWell w ks again params values
    pub back : BackWell w vars params variables
    pub gives : (js : List ObjectType) (v : Value) → HasTypeIf w js result v → HasTypeIf w js seen v

  -- the parameters of a target are those that the caller sees of it
  pub static_params : (t : Target) (class : ℕ) (params own : List ParamType) → ParamsAre w (reach.Target t class) params → Takes w class t own → params ≡ own
  static_params t class params own a takes = same_lists params own (λ n. sym (a.each n) ∙ takes.each n)

  pub shape_params : (shape : CallType) (o : Option CallType) (params : List ParamType) → o ≡ Some shape → ((place : ℕ) → option_and_then (λ (s : CallType). slice_get s.params place) o ≡ slice_get params place) → params ≡ shape.params
  shape_params shape o params e h = same_lists params shape.params (λ n. sym (h n) ∙ ap (option_and_then (λ (s : CallType). slice_get s.params n)) e)

  pub shape_result : (shape : CallType) (o : Option CallType) → o ≡ Some shape → option_and_then (λ (s : CallType). s.result) o ≡ shape.result
  shape_result shape o e = ap (option_and_then (λ (s : CallType). s.result)) e

  -- the call type of a subtype of a bound type
  lower_shaped : (upper lower : ℕ) (a : CallType) → call_type_at w.bound upper ≡ Some a → is_supertype w upper lower ≡ true → (b : CallType) × (call_type_at w.bound lower ≡ Some b) × ((b ≡ a) ⊎ (call_types_alike w b a ≡ true))
  lower_shaped upper lower a e h =
      elim (one_of (upper == lower) (is_strict_supertype w upper lower) h) as (λ x. (b : CallType) × (call_type_at w.bound lower ≡ Some b) × ((b ≡ a) ⊎ (call_types_alike w b a ≡ true))) [
        | inl same ↦ (a, ap (call_type_at w.bound) (sym (eqb-true upper lower same)) ∙ e, inl refl)
        | inr is ↦ elim (k.above_is upper lower is) as (λ x. (b : CallType) × (call_type_at w.bound lower ≡ Some b) × ((b ≡ a) ⊎ (call_types_alike w b a ≡ true))) [
          | inl c ↦ absurd (none-some a (sym (k.abstract_unbound upper c) ∙ e))
          | inr c ↦ (c.0, c.2, inr (subst (λ (i : CallType). call_types_alike w c.0 i ≡ true) (same_Some c.1 a (sym c.3 ∙ e)) c.4))
        ]
      ]

  shape_given : (ks : List ObjectType) (again : Bool) (lower upper : CallType) (given : List (Option Value)) → (lower ≡ upper) ⊎ (call_types_alike w lower upper ≡ true) → GivenWell w ks again upper.params given → GivenWell w ks again lower.params given
  shape_given ks again lower upper given (inl e) h = subst (λ (i : CallType). GivenWell w ks again i.params given) (sym e) h
  shape_given ks again lower upper given (inr e) h =
      given_alike ks again lower.params upper.params given (second_of (is_result_alike w lower.result upper.result) _ (second_of (agree lower.iter upper.iter) _ e)) h

  shape_back : (vars : List ℕ) (lower upper : CallType) (back : List (Option ℕ)) → (lower ≡ upper) ⊎ (call_types_alike w lower upper ≡ true) → BackWell w vars upper.params back → BackWell w vars lower.params back
  shape_back vars lower upper back (inl e) h = subst (λ (i : CallType). BackWell w vars i.params back) (sym e) h
  shape_back vars lower upper back (inr e) h =
      backs_alike vars lower.params upper.params back (second_of (is_result_alike w lower.result upper.result) _ (second_of (agree lower.iter upper.iter) _ e)) h

  shape_gives : (ks : List ObjectType) (lower upper : CallType) (v : Value) → (lower ≡ upper) ⊎ (call_types_alike w lower upper ≡ true) → HasTypeIf w ks lower.result v → HasTypeIf w ks upper.result v
  shape_gives ks lower upper v (inl e) h = subst (λ (i : CallType). HasTypeIf w ks i.result v) e h
  shape_gives ks lower upper v (inr e) h = result_alike ks lower.result upper.result v (first_of (is_result_alike w lower.result upper.result) _ (second_of (agree lower.iter upper.iter) _ e)) h

  -- what a caller sees, by what it calls
  pub sees_of : (ks : List ObjectType) (vars : List ℕ) (again : Bool) (of : TypedCallee) (g : ExprType) (r : ResolvedCallee) (c : ResolvedCall) (class : ℕ) (t : Target) (own params : List ParamType) (given : List (Option Value)) (back : List (Option ℕ)) → reached w of g ≡ Some r → ParamsAre w r params → Takes w class t own → IsCallee w ks of (bound_of r) class t own c.through → GivenWell w ks again params given → BackWell w vars params back → Sees ks vars again of (bound_of r) c class t own given back (result_type w r)
  sees_of ks vars again (called.Static u n) g r c class t own params given back e a takes is h b =
      let target_is : reach.Target u n ≡ r = (is_if k (is_plain n g && is_some (target_arity w n u)) (reach.Target u n) r e).1 in
      let same : reach.Target t class ≡ r = ap₂ (λ v m. reach.Target v m) (sym is.0) (sym is.1) ∙ target_is in
      record {
        params = params;
        result = target_result w class t;
        sees = (static_params t class params own (subst (λ (q : ResolvedCallee). ParamsAre w q params) (sym same) a) takes, refl);
        given = h;
        back = b;
        gives = λ js v x. subst (λ (q : ResolvedCallee). HasTypeIf w js (result_type w q) v) same x;
      }
  sees_of ks vars again (called.Dispatch n) g r c class t own params given back e a takes is h b =
      let found = some_signature k n g (slice_get w.signatures n) r refl e in
      let mine : ParamsAre w (reach.Signature n) params = subst (λ (q : ResolvedCallee). ParamsAre w q params) (sym found.2) a in
      record {
        params = params;
        result = is.1.result;
        sees = (is.1, is.3, shape_params is.1 (call_type_at w.shapes n) params is.3 mine.each, refl);
        given = h;
        back = b;
        gives = λ js v x. subst (λ (q : ResolvedCallee). HasTypeIf w js (result_type w q) v) found.2 (subst (λ o. HasTypeIf w js o v) (sym (shape_result is.1 (call_type_at w.shapes n) is.3)) x);
      }
  sees_of ks vars again called.Bound g r c class t own params given back e a takes is h b =
      let found = bound_reached k g r e in
      let mine : ParamsAre w (reach.Bound found.0) params = subst (λ (q : ResolvedCallee). ParamsAre w q params) (sym found.2) a in
      let upper = bound_shaped k found.0 (λ none. none-some (length params) (sym none ∙ mine.arity)) in
      let held : is_supertype w found.0 is.1 ≡ true = is.7 found.0 (ap bound_of (sym found.2)) in
      let lower = lower_shaped found.0 is.1 upper.0 upper.1 held in
      let theirs : params ≡ upper.0.params = shape_params upper.0 (call_type_at w.bound found.0) params upper.1 mine.each in
      let given_theirs = subst (λ ps. GivenWell w ks again ps given) theirs h in
      let back_theirs = subst (λ ps. BackWell w vars ps back) theirs b in
      record {
        params = lower.0.params;
        result = lower.0.result;
        sees = (is.0, is.1, is.2, lower.0, is.3, is.4, lower.1, refl, refl);
        given = shape_given ks again lower.0 upper.0 given lower.2 given_theirs;
        back = shape_back vars lower.0 upper.0 back lower.2 back_theirs;
        gives = λ js v x. subst (λ (q : ResolvedCallee). HasTypeIf w js (result_type w q) v) found.2 (subst (λ o. HasTypeIf w js o v) (sym (shape_result upper.0 (call_type_at w.bound found.0) upper.1)) (shape_gives js lower.0 upper.0 v lower.2 x));
      }

module _ {w : Rows} {p : Program} (k : ProgramFacts w p) (go : Continuation → Eval Completion) (safely : IsSafe w go) where
  -- a call of a routine gives a value of the result type of what it resolves to
  pub safe_call : {base : List ObjectType} {x : Point} (at : Pos) (of : TypedCallee) (g : ExprType) (r : ResolvedCallee) (params : List ParamType) (v : Value) (given : List (Option Value)) (back : List (Option ℕ)) → IsLocal w x.local → reached w of g ≡ Some r → is_iter w r ≡ false → ParamsAre w r params → GivenIs w base g v → GivenWell w base false params given → BackWell w x.local.frame.vars params back → Safe w base x Value (λ ks u. HasTypeIf w ks (result_type w r) u) (call p go at of v given back)
  safe_call {x = x} at of g r params v given back l e routine a is h b =
      safe_then (safe_callee k at of g r v e is (λ none. none-some (length params) (sym none ∙ a.arity)))
      (λ ks c f well.
      let sees = sees_of k ks x.local.frame.vars false of g r c well.class c.target well.own params given back e a well.takes well.reached (given_later k f false params given h) b in
      safe_then (safe_handed k at false of (bound_of r) c well.class c.target well.own sees.params sees.result given back (refl, inl well.is) well.takes well.reached sees.sees sees.given sees.back)
      (λ js delivered i hands. safe_then {P = λ hs r. HasTypeIf w hs (target_result w well.class c.target) r.0 × Came w hs well.own r.1}
      (subst (λ n. Safe w js x (Value × List Value) (λ hs r. HasTypeIf w hs (target_result w well.class c.target) r.0 × Came w hs well.own r.1) (calls.reached p go at c.target n c.self delivered.given)) (sym well.is)
      (safe_reached k go safely at well.class c.target well.own c.self delivered.given well.takes (well.iters ∙ routine) (type_later w i c.self well.class well.self) hands.given))
      (λ hs r j came. safe_that (safe_brought k at false well.class c.target well.own sees.result delivered r l (hands_later k j hands) came.0 came.1)
      (λ fs u m t. sees.gives fs u t))))
