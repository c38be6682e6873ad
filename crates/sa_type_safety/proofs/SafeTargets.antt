-- The target of a call runs safely: features, built-in ones, attributes and shareds.
use Rattle.std.proofs.Common.{◌≡◌, ℕ, zero, suc, Bool, true, false, if◌then◌else◌, List, [], ◌∷◌, map, length, Option, Some, None, slice_get, option_and_then, is_some, refl, sym, ap, subst, ◌∙◌, true≢false, arith}
use Rattle.std.specs.Option.{option_map_or}
use Rattle.std.proofs.lemmas.Option.{same_Some, none-some, slice_get-map}
use Rattle.sa_ast.specs.declared.pos.Pos.{Pos}
use Rattle.sa_ast.specs.declared.ty.Mode.TheVariants as mode
use Rattle.sa_typed.specs.declared.feature.TypedFeature.{TypedFeature}
use Rattle.sa_typed.specs.declared.feature.Target.{Target}
use Rattle.sa_typed.specs.declared.feature.Target.TheVariants as target
use Rattle.sa_typed.specs.declared.program.TypedShared.{TypedShared}
use Rattle.sa_typed.specs.declared.program.TypeDef.{TypeDef}
use Rattle.sa_prelude.specs.declared.feature.BuiltinFeature.{BuiltinFeature}
use Rattle.sa_typing.specs.declared.expr_type.ParamType.{ParamType}
use Rattle.sa_typing.specs.Rows.{Rows, attribute, is_immutable}
use Rattle.sa_typing.specs.Builtins.{first_type, second_type}
use Rattle.sa_typing.specs.Passing.{is_value_mode}
use Rattle.sa_typing.specs.Targets.{builtin_parameter, count_if, feature_arity, in_parameter, is_target_iter, only_parameter, shared_type, target_result}
use Rattle.sa_semantics.specs.Program.{Program}
use Rattle.sa_semantics.specs.Value.{Value, Void}
use Rattle.sa_semantics.specs.State.{Continuation, Completion}
use Rattle.sa_semantics.specs.Steps.{Eval}
use Rattle.sa_semantics.specs.Calls.{reached}
use Rattle.sa_type_safety.specs.Typing.{ObjectType, HasType, HasTypeIf, Takes, attributes}
use Rattle.sa_type_safety.proofs.ProgramFacts.{ProgramFacts}
use Rattle.sa_type_safety.proofs.Worlds.{type_later, type_if_later}
use Rattle.sa_type_safety.proofs.Safe.{Point, Safe, safe_then, safe_before, safe_with, safe_pure}
use Rattle.sa_type_safety.proofs.Passing.{GivenWell, Came}
use Rattle.sa_type_safety.proofs.SafeRoutines.{IsSafe, count_of, class_is, safe_routine}
use Rattle.sa_type_safety.proofs.SafeAttributes.{safe_attribute, safe_set_attribute, safe_shared, safe_set_shared}
use Rattle.sa_type_safety.proofs.SafeBuiltin.{safe_builtin}

-- ---- attributes and shareds of the rows

module _ (w : Rows) where
  attribute_in : (a : ℕ) (o : Option TypeDef) → option_map_or (λ (t : TypeDef). slice_get t.attrs a) o None ≡ slice_get (option_map_or (λ (t : TypeDef). t.attrs) o []) a
  attribute_in a None = refl
  attribute_in a (Some t) = refl

  pub attribute_is : (class a : ℕ) → attribute w class a ≡ slice_get (attributes w class) a
  attribute_is class a = attribute_in a (slice_get w.types class)

  pub shared_is : (n : ℕ) → shared_type w n ≡ slice_get (map (λ (s : TypedShared). s.ty) w.shareds) n
  shared_is n = sym (slice_get-map (λ (s : TypedShared). s.ty) w.shareds n)

  -- ---- what has no variables takes values alone

  given_in : (ty : Option ℕ) (o : ParamType) → in_parameter ty ≡ Some o → is_value_mode o.mode ≡ true
  given_in None o e = absurd (none-some o e)
  given_in (Some ty) o e = subst (λ (q : ParamType). is_value_mode q.mode ≡ true) (same_Some _ o e) refl

  builtin_in : (class : ℕ) (b : BuiltinFeature) (place : ℕ) (o : ParamType) → builtin_parameter w class b place ≡ Some o → is_value_mode o.mode ≡ true
  builtin_in class b zero o e = given_in (first_type w b) o e
  builtin_in class b (suc zero) o e = given_in (second_type w class b) o e
  builtin_in class b (suc (suc place)) o e = absurd (none-some o e)

  only_in : (ty : Option ℕ) (place : ℕ) (o : ParamType) → only_parameter ty place ≡ Some o → is_value_mode o.mode ≡ true
  only_in ty zero o e = given_in ty o e
  only_in ty (suc place) o e = absurd (none-some o e)

  pub nothing_came : (ks : List ObjectType) (own : List ParamType) → ((place : ℕ) (o : ParamType) → slice_get own place ≡ Some o → is_value_mode o.mode ≡ true) → Came w ks own []
  nothing_came ks [] h = tt
  nothing_came ks (o ∷ own) h = (h 0 o refl, nothing_came ks own (λ place q e. h (suc place) q e))

  -- ---- a target with one argument, and with none

  only_own : (ty : Option ℕ) (b : Bool) (own : List ParamType) → count_if 1 b ≡ Some (length own) → ((place : ℕ) → only_parameter ty place ≡ slice_get own place) → (of : ℕ) × (ty ≡ Some of) × (own ≡ record { mode = mode.In; ty = of } ∷ [])
  only_own ty b [] e h = absurd (omega (arith, (count_of 1 b 0 e).1))
  only_own ty b (o ∷ q ∷ own) e h = absurd (none-some q (h 1))
  only_own None b (o ∷ []) e h = absurd (none-some o (h 0))
  only_own (Some of) b (o ∷ []) e h = (of, refl, ap (λ (q : ParamType). q ∷ []) (sym (same_Some _ o (h 0))))

  one_given : (ks : List ObjectType) (of : ℕ) (given : List (Option Value)) → GivenWell w ks false (record { mode = mode.In; ty = of } ∷ []) given → (v : Value) × (given ≡ Some v ∷ []) × HasType w ks v of
  one_given ks of [] h = absurd h
  one_given ks of (None ∷ given) h = absurd h.0
  one_given ks of (Some v ∷ []) h = (v, refl, h.0)
  one_given ks of (Some v ∷ u ∷ given) h = absurd h.1

  none_own : (b : Bool) (own : List ParamType) → count_if 0 b ≡ Some (length own) → own ≡ []
  none_own b [] e = refl
  none_own b (o ∷ own) e = absurd (omega (arith, (count_of 0 b _ e).1))

  none_given : (ks : List ObjectType) (given : List (Option Value)) → GivenWell w ks false [] given → given ≡ []
  none_given ks [] h = refl
  none_given ks (v ∷ given) h = absurd h

  there_of : (b : Bool) (o : Option ℕ) (n : ℕ) → is_some o ≡ b → count_if 0 b ≡ Some n → (of : ℕ) × (o ≡ Some of)
  there_of b None n e h = absurd (true≢false (sym (count_of 0 b n h).0 ∙ sym e))
  there_of b (Some of) n e h = (of, refl)

  feature_there : (n class many : ℕ) (o : Option TypedFeature) → slice_get w.features n ≡ o → option_and_then (λ (f : TypedFeature). feature_arity f class) o ≡ Some many → (f : TypedFeature) × (slice_get w.features n ≡ Some f)
  feature_there n class many None e h = absurd (none-some many h)
  feature_there n class many (Some f) e h = (f, e)

  set_gives : (ks : List ObjectType) (class : ℕ) (b : Bool) (v : Value) → (b ≡ true → HasType w ks v class) → HasTypeIf w ks (if b then Some class else None) v
  set_gives ks class true v h = h refl
  set_gives ks class false v h = tt

module _ {w : Rows} {p : Program} (k : ProgramFacts w p) (go : Continuation → Eval Completion) (safely : IsSafe w go) where
  abbrev Reaches : List ObjectType → Point → Pos → ℕ → Target → List ParamType → Value → List (Option Value) → Type 0
  Reaches base x at class t own self given =
      Safe w base x (Value × List Value) (λ ks r. HasTypeIf w ks (target_result w class t) r.0 × Came w ks own r.1) (reached p go at t (Some class) self given)

  safe_get : {base : List ObjectType} {x : Point} (at : Pos) (class a : ℕ) (own : List ParamType) (self : Value) (given : List (Option Value)) → Takes w class (target.Get a) own → HasType w base self class → GivenWell w base false own given → Reaches base x at class (target.Get a) own self given
  safe_get {base} {x} at class a own self given takes me h =
      let none = none_own w (is_some (attribute w class a)) own takes.arity in
      let empty = none_given w base given (subst (λ ps. GivenWell w base false ps given) none h) in
      let there = there_of w (is_some (attribute w class a)) (attribute w class a) (length own) refl takes.arity in
      subst (λ list. Reaches base x at class (target.Get a) own self list) (sym empty)
      (safe_then (safe_attribute k at class a there.0 self (sym (attribute_is w class a) ∙ there.1) me)
      (λ ks v e is. safe_pure (v, []) (λ js f.
      (subst (λ r. HasTypeIf w js r v) (sym there.1) (type_later w f v there.0 is), subst (λ ps. Came w js ps []) (sym none) tt))))

  safe_get_shared : {base : List ObjectType} {x : Point} (at : Pos) (class n : ℕ) (own : List ParamType) (self : Value) (given : List (Option Value)) → Takes w class (target.GetShared n) own → GivenWell w base false own given → Reaches base x at class (target.GetShared n) own self given
  safe_get_shared {base} {x} at class n own self given takes h =
      let none = none_own w (is_some (shared_type w n)) own takes.arity in
      let empty = none_given w base given (subst (λ ps. GivenWell w base false ps given) none h) in
      let there = there_of w (is_some (shared_type w n)) (shared_type w n) (length own) refl takes.arity in
      subst (λ list. Reaches base x at class (target.GetShared n) own self list) (sym empty)
      (safe_then (safe_shared k n there.0 (sym (shared_is w n) ∙ there.1))
      (λ ks v e is. safe_pure (v, []) (λ js f.
      (subst (λ r. HasTypeIf w js r v) (sym there.1) (type_later w f v there.0 is), subst (λ ps. Came w js ps []) (sym none) tt))))

  safe_set : {base : List ObjectType} {x : Point} (at : Pos) (class a : ℕ) (own : List ParamType) (self : Value) (given : List (Option Value)) → Takes w class (target.Set a) own → HasType w base self class → GivenWell w base false own given → Reaches base x at class (target.Set a) own self given
  safe_set {base} {x} at class a own self given takes me h =
      let only = only_own w (attribute w class a) (is_some (attribute w class a)) own takes.arity takes.each in
      let one = one_given w base only.0 given (subst (λ ps. GivenWell w base false ps given) only.2 h) in
      subst (λ list. Reaches base x at class (target.Set a) own self list) (sym one.1)
      (safe_then (safe_with _ one.0 refl (safe_set_attribute k at class a only.0 one.0 self (sym (attribute_is w class a) ∙ only.1) one.2 me))
      (λ ks v e is. safe_pure (v, []) (λ js f.
      (set_gives w js class (is_immutable w class) v (λ i. type_later w f v class (is i)), subst (λ ps. Came w js ps []) (sym only.2) (refl, tt)))))

  safe_put_shared : {base : List ObjectType} {x : Point} (at : Pos) (class n : ℕ) (own : List ParamType) (self : Value) (given : List (Option Value)) → Takes w class (target.SetShared n) own → GivenWell w base false own given → Reaches base x at class (target.SetShared n) own self given
  safe_put_shared {base} {x} at class n own self given takes h =
      let only = only_own w (shared_type w n) (is_some (shared_type w n)) own takes.arity takes.each in
      let one = one_given w base only.0 given (subst (λ ps. GivenWell w base false ps given) only.2 h) in
      subst (λ list. Reaches base x at class (target.SetShared n) own self list) (sym one.1)
      (safe_then {P = λ ks v. Unit {0}}
      (safe_before (safe_with _ one.0 refl (safe_set_shared k n only.0 one.0 (sym (shared_is w n) ∙ only.1) one.2)) (λ ks e. safe_pure Void (λ js f. tt)))
      (λ ks v e is. safe_pure (v, []) (λ js f. (tt, subst (λ ps. Came w js ps []) (sym only.2) (refl, tt)))))

  safe_built : {base : List ObjectType} {x : Point} (at : Pos) (class : ℕ) (b : BuiltinFeature) (own : List ParamType) (self : Value) (given : List (Option Value)) → Takes w class (target.Builtin b) own → HasType w base self class → GivenWell w base false own given → Reaches base x at class (target.Builtin b) own self given
  safe_built at class b own self given takes me h =
      safe_then (safe_builtin k at class b own self given takes me h)
      (λ ks v e is. safe_pure (v, []) (λ js f. (type_if_later w f _ v is, nothing_came w js own (λ place o g. builtin_in w class b place o (takes.each place ∙ g)))))

  safe_featured : {base : List ObjectType} {x : Point} (at : Pos) (class n : ℕ) (own : List ParamType) (self : Value) (given : List (Option Value)) → Takes w class (target.Feature n) own → is_target_iter w (target.Feature n) ≡ false → HasType w base self class → GivenWell w base false own given → Reaches base x at class (target.Feature n) own self given
  safe_featured {base} {x} at class n own self given takes routine me h =
      let found = feature_there w n class (length own) (slice_get w.features n) refl takes.arity in
      let same = class_is w class n found.0 own found.1 takes in
      let plain : found.0.iter ≡ false = ap (λ o. option_map_or (λ (f : TypedFeature). f.iter) o false) (sym found.1) ∙ routine in
      subst (λ m. Reaches base x at m (target.Feature n) own self given) same
      (safe_routine k go safely at n found.0 own self given found.1 (subst (λ m. Takes w m (target.Feature n) own) (sym same) takes) plain (subst (HasType w base self) (sym same) me) h)

  -- the target of a call gives a value of the type of its result
  pub safe_reached : {base : List ObjectType} {x : Point} (at : Pos) (class : ℕ) (t : Target) (own : List ParamType) (self : Value) (given : List (Option Value)) → Takes w class t own → is_target_iter w t ≡ false → HasType w base self class → GivenWell w base false own given → Reaches base x at class t own self given
  safe_reached at class (target.Feature n) own self given takes routine me h = safe_featured at class n own self given takes routine me h
  safe_reached at class (target.Builtin b) own self given takes routine me h = safe_built at class b own self given takes me h
  safe_reached at class (target.Get a) own self given takes routine me h = safe_get at class a own self given takes me h
  safe_reached at class (target.Set a) own self given takes routine me h = safe_set at class a own self given takes me h
  safe_reached at class (target.GetShared n) own self given takes routine me h = safe_get_shared at class n own self given takes h
  safe_reached at class (target.SetShared n) own self given takes routine me h = safe_put_shared at class n own self given takes h
