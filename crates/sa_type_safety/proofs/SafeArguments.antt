-- The arguments of calls, by the parameters that take them.
use Rattle.std.proofs.Common.{◌≡◌, ℕ, suc, ◌+◌, inl, inr, Bool, true, false, not, ◌&&◌, ◌==◌, List, [], ◌∷◌, length, Option, Some, None, slice_get, option_map, option_and_then, is_some, refl, sym, ap, subst, ◌∙◌, true≢false, eqb-true, arith}
use Rattle.std.proofs.lemmas.Bool.{or_left, eq-eqb}
use Rattle.std.proofs.lemmas.Option.{same_Some, none-some}
use Rattle.sa_ast.specs.declared.ty.Mode.{Mode}
use Rattle.sa_ast.specs.declared.ty.Mode.TheVariants as mode
use Rattle.sa_ast.specs.TypeEquality.{same_mode}
use Rattle.sa_typed.specs.Tree as tree
use Rattle.sa_typed.specs.Tree.{Expr, Arg, Variable, Open, Args, no_args, arg}
use Rattle.sa_typing.specs.declared.expr_type.ExprType.{ExprType}
use Rattle.sa_typing.specs.declared.expr_type.ExprType.TheVariants.{NoValue, Of, BoxedOf}
use Rattle.sa_typing.specs.declared.expr_type.ParamType.{ParamType}
use Rattle.sa_typing.specs.declared.expr_type.ResolvedCallee.{ResolvedCallee}
use Rattle.sa_typing.specs.declared.expr_type.ResolvedCallee.TheVariants as reach
use Rattle.sa_typing.specs.declared.context.TypingContext.{TypingContext}
use Rattle.sa_typing.specs.declared.call_type.CallType.{CallType}
use Rattle.sa_typing.specs.Rows.{Rows, is_supertype, is_strict_supertype, is_immutable, call_type_at}
use Rattle.sa_typing.specs.Calls.{arity, parameter}
use Rattle.sa_typing.specs.Expressions.{args_fit, arg_fits, type_of_expr}
use Rattle.sa_typing.specs.Forms.{type_fits, value_fits}
use Rattle.sa_typing.specs.ExprType.{is_assignable, is_just}
use Rattle.sa_typing.specs.Passing.{is_assignable_back, is_value_mode}
use Rattle.sa_typing.specs.Contexts.{Env}
use Rattle.sa_semantics.specs.Program.{Program}
use Rattle.sa_semantics.specs.Value.{Value}
use Rattle.sa_semantics.specs.Calls.{is_once}
use Rattle.sa_semantics.specs.Evaluation.{every, not_once, either, variables_of}
use Rattle.sa_type_safety.specs.Typing.{ObjectType, HasType}
use Rattle.sa_type_safety.proofs.Facts.{first_of, second_of, one_of, not_true}
use Rattle.sa_type_safety.proofs.ProgramFacts.{ProgramFacts}
use Rattle.sa_type_safety.proofs.Passing.{GivenWell, ArgThat, BackTo, BackWell, same_modes, goes_up, holds_above}
use Rattle.sa_type_safety.proofs.SafeCalls.{GivenIs}
use Rattle.sa_type_safety.proofs.SafeCall.{ParamsAre}

just_is : (n : ℕ) (o : Option ℕ) → is_just n o ≡ true → o ≡ Some n
just_is n None e = absurd (true≢false (sym e))
just_is n (Some found) e = ap (λ m. Some m) (eqb-true found n e)

shape_there : (o : Option CallType) (n : ℕ) → option_map (λ (s : CallType). length s.params) o ≡ Some n → (s : CallType) × (o ≡ Some s)
shape_there None n e = absurd (none-some n e)
shape_there (Some s) n e = (s, refl)

-- ---- what is assignable to a type

module _ {w : Rows} {p : Program} (k : ProgramFacts w p) where
  pub given_goes : (ks : List ObjectType) (g : ExprType) (ty : ℕ) (v : Value) → is_assignable w g ty ≡ true → GivenIs w ks g v → HasType w ks v ty
  given_goes ks NoValue ty v e h = absurd (true≢false (sym e))
  given_goes ks (Of own) ty v e h =
      elim (one_of (own == ty) (not (is_immutable w own) && is_strict_supertype w ty own) e) as (λ x. HasType w ks v ty) [
        | inl same ↦ subst (HasType w ks v) (eqb-true own ty same) h
        | inr b ↦ goes_up k ks v own ty (not_true (is_immutable w own) (first_of (not (is_immutable w own)) _ b)) (holds_above k ty own (second_of (not (is_immutable w own)) _ b)) h
      ]
  given_goes ks (BoxedOf own) ty v e h = subst (λ u. HasType w ks u ty) (sym h.1) (own, h.2, h.3, e)

  -- ---- the parameters of what a call resolves to, as a list

  pub params_of : (r : ResolvedCallee) (n : ℕ) → arity w r ≡ Some n → (params : List ParamType) × ParamsAre w r params
  params_of (reach.Target t class) n e =
      let taken = k.taken class t (ap is_some e) in
      (taken.0, record { arity = taken.1.arity; each = taken.1.each })
  params_of (reach.Signature m) n e =
      let found = shape_there (call_type_at w.shapes m) n e in
      (found.0.params, record { arity = ap (option_map (λ (s : CallType). length s.params)) found.1; each = λ place. ap (option_and_then (λ (s : CallType). slice_get s.params place)) found.1 })
  params_of (reach.Bound ty) n e =
      let found = shape_there (call_type_at w.bound ty) n e in
      (found.0.params, record { arity = ap (option_map (λ (s : CallType). length s.params)) found.1; each = λ place. ap (option_and_then (λ (s : CallType). slice_get s.params place)) found.1 })

-- ---- arguments and parameters, one by one

module _ (f : Env) (at : TypingContext) where
  abbrev pub ArgsAre : List ParamType → Args → Type 0
  ArgsAre [] no_args = Unit {0}
  ArgsAre [] (arg a more) = ⊥
  ArgsAre (q ∷ params) no_args = ⊥
  ArgsAre (q ∷ params) (arg a more) = (arg_fits f at (Some q) a ≡ true) × ArgsAre params more

  -- there are as many parameters as arguments
  pub args_many : (r : ResolvedCallee) (place : ℕ) (arguments : Args) → args_fit f at r place arguments ≡ true → (n : ℕ) × (arity f.rows r ≡ Some n)
  args_many r place no_args e = (place, just_is place (arity f.rows r) e)
  args_many r place (arg a more) e = args_many r (place + 1) more (second_of (arg_fits f at (parameter f.rows r place) a) _ e)

  no_fit : (r : ResolvedCallee) (place : ℕ) (a : Arg) → parameter f.rows r place ≡ None → arg_fits f at (parameter f.rows r place) a ≡ true → ⊥
  no_fit r place (tree.Value m e) n h = true≢false (sym (subst (λ o. value_fits f.rows o m (type_of_expr f at e) ≡ true) n h))
  no_fit r place (Variable m var) n h = true≢false (sym (subst (λ o. type_fits f.rows o m (slice_get f.vars var) ≡ true) n h))
  no_fit r place Open n h = true≢false (sym h)

  pub args_are : (r : ResolvedCallee) (place : ℕ) (params : List ParamType) (arguments : Args) → args_fit f at r place arguments ≡ true → ((j : ℕ) → parameter f.rows r (place + j) ≡ slice_get params j) → arity f.rows r ≡ Some (place + length params) → ArgsAre params arguments
  args_are r place [] no_args e h n = tt
  args_are r place [] (arg a more) e h n = absurd (no_fit r place a (subst (λ m. parameter f.rows r m ≡ None) (omega arith) (h 0)) (first_of (arg_fits f at (parameter f.rows r place) a) _ e))
  args_are r place (q ∷ params) no_args e h n = absurd (omega (arith, same_Some _ _ (sym (just_is place (arity f.rows r) e) ∙ n)))
  args_are r place (q ∷ params) (arg a more) e h n =
      let here : parameter f.rows r place ≡ Some q = subst (λ m. parameter f.rows r m ≡ Some q) (omega arith) (h 0) in (
        subst (λ o. arg_fits f at o a ≡ true) here (first_of (arg_fits f at (parameter f.rows r place) a) _ e),
        args_are r (place + 1) params more (second_of (arg_fits f at (parameter f.rows r place) a) _ e) (λ j. subst (λ m. parameter f.rows r m ≡ slice_get params j) (omega arith) (h (suc j))) (n ∙ ap (λ m. Some m) (omega arith)),
      )

  -- ---- variables that get a value back

  goes_back_is : (m : Mode) (q : ParamType) (ty : ℕ) → is_assignable_back f.rows q.ty m ty ≡ true → (is_value_mode m ≡ false) × (is_supertype f.rows ty q.ty ≡ true)
  goes_back_is mode.In q ty e = absurd (true≢false (sym e))
  goes_back_is mode.Once q ty e = absurd (true≢false (sym e))
  goes_back_is mode.Out q ty e = (refl, e)
  goes_back_is mode.Inout q ty e = (refl, subst (λ n. is_supertype f.rows n q.ty ≡ true) (sym (eqb-true ty q.ty e)) (or_left (q.ty == q.ty) (is_strict_supertype f.rows q.ty q.ty) (eq-eqb q.ty q.ty refl)))

  variable_back : (q : ParamType) (m : Mode) (var : ℕ) (o : Option ℕ) → slice_get f.vars var ≡ o → type_fits f.rows (Some q) m o ≡ true → BackTo f.rows f.vars q (Some var)
  variable_back q m var None e h = absurd (true≢false (sym h))
  variable_back q m var (Some ty) e h =
      let modes = same_modes q.mode m (first_of (same_mode q.mode m) (is_assignable_back f.rows q.ty m ty) h) in
      let back = goes_back_is m q ty (second_of (same_mode q.mode m) (is_assignable_back f.rows q.ty m ty) h) in
      (subst (λ n. is_value_mode n ≡ false) (sym modes) back.0, (ty, e, back.1))

  pub variable_is : (q : ParamType) (m : Mode) (var : ℕ) (o : Option ℕ) → slice_get f.vars var ≡ o → type_fits f.rows (Some q) m o ≡ true → (ty : ℕ) × (slice_get f.vars var ≡ Some ty) × (q.mode ≡ m) × (is_assignable_back f.rows q.ty m ty ≡ true)
  variable_is q m var None e h = absurd (true≢false (sym h))
  variable_is q m var (Some ty) e h =
      (ty, e, same_modes q.mode m (first_of (same_mode q.mode m) (is_assignable_back f.rows q.ty m ty) h), second_of (same_mode q.mode m) (is_assignable_back f.rows q.ty m ty) h)

  pub value_given : (q : ParamType) (m : Mode) (o : Option ExprType) → value_fits f.rows (Some q) m o ≡ true → (g : ExprType) × (o ≡ Some g) × (q.mode ≡ m) × (is_value_mode m ≡ true) × (is_assignable f.rows g q.ty ≡ true)
  value_given q m None h = absurd (true≢false (sym h))
  value_given q m (Some g) h =
      let rest = second_of (same_mode q.mode m) (is_value_mode m && is_assignable f.rows g q.ty) h in
      (g, refl, same_modes q.mode m (first_of (same_mode q.mode m) (is_value_mode m && is_assignable f.rows g q.ty) h), first_of (is_value_mode m) (is_assignable f.rows g q.ty) rest, second_of (is_value_mode m) (is_assignable f.rows g q.ty) rest)

  pub backs_of : (params : List ParamType) (arguments : Args) → ArgsAre params arguments → BackWell f.rows f.vars params (variables_of arguments)
  backs_of [] no_args h = tt
  backs_of [] (arg a more) h = absurd h
  backs_of (q ∷ params) no_args h = absurd h
  backs_of (q ∷ params) (arg (tree.Value m e) more) h =
      let given = value_given q m (type_of_expr f at e) h.0 in
      (subst (λ n. is_value_mode n ≡ true) (sym given.2) given.3, backs_of params more h.1)
  backs_of (q ∷ params) (arg (Variable m var) more) h = (variable_back q m var (slice_get f.vars var) refl h.0, backs_of params more h.1)
  backs_of (q ∷ params) (arg Open more) h = absurd (true≢false (sym h.0))

-- ---- some of the arguments

-- what an argument of such a mode has, or another
abbrev pub PartOf : Bool → (Value → Type 0) → Mode → Option Value → Type 0
PartOf true Q m v = ArgThat Q false m v
PartOf false Q m v = v ≡ None

-- the values of the arguments of some modes, and none at the others
abbrev pub PartWell : Rows → List ObjectType → (Mode → Bool) → List ParamType → List (Option Value) → Type 0
PartWell w ks test [] [] = Unit {0}
PartWell w ks test [] (v ∷ given) = ⊥
PartWell w ks test (q ∷ params) [] = ⊥
PartWell w ks test (q ∷ params) (v ∷ given) = PartOf (test q.mode) (λ u. HasType w ks u q.ty) q.mode v × PartWell w ks test params given

module _ (w : Rows) (ks : List ObjectType) where
  pub all_given : (params : List ParamType) (given : List (Option Value)) → PartWell w ks every params given → GivenWell w ks false params given
  all_given [] [] h = tt
  all_given [] (v ∷ given) h = h
  all_given (q ∷ params) [] h = h
  all_given (q ∷ params) (v ∷ given) h = (h.0, all_given params given h.1)

  rest_one : (m : Mode) (ty : ℕ) (v : Option Value) → PartOf (not_once m) (λ u. HasType w ks u ty) m v → ArgThat (λ u. HasType w ks u ty) true m v
  rest_one mode.Once ty v h = subst (λ a. ArgThat (λ u. HasType w ks u ty) true mode.Once a) (sym h) tt
  rest_one mode.In ty None h = h
  rest_one mode.In ty (Some v) h = h
  rest_one mode.Out ty None h = h
  rest_one mode.Out ty (Some v) h = h
  rest_one mode.Inout ty None h = h
  rest_one mode.Inout ty (Some v) h = h

  -- at a resumption the `once` ones lack
  pub rest_given : (params : List ParamType) (given : List (Option Value)) → PartWell w ks not_once params given → GivenWell w ks true params given
  rest_given [] [] h = tt
  rest_given [] (v ∷ given) h = h
  rest_given (q ∷ params) [] h = h
  rest_given (q ∷ params) (v ∷ given) h = (rest_one q.mode q.ty v h.0, rest_given params given h.1)

  either_one : (m : Mode) (ty : ℕ) (a b : Option Value) (first second : List (Option Value)) → PartOf (is_once m) (λ u. HasType w ks u ty) m a → PartOf (not_once m) (λ u. HasType w ks u ty) m b → (c : Option Value) × (either (a ∷ first) (b ∷ second) ≡ c ∷ either first second) × ArgThat (λ u. HasType w ks u ty) false m c
  either_one mode.Once ty (Some a) b first second h g = (Some a, refl, h)
  either_one mode.Once ty None b first second h g = absurd h
  either_one mode.In ty None b first second h g = (b, refl, g)
  either_one mode.In ty (Some a) b first second h g = absurd (none-some a (sym h))
  either_one mode.Out ty None b first second h g = (b, refl, g)
  either_one mode.Out ty (Some a) b first second h g = absurd (none-some a (sym h))
  either_one mode.Inout ty None b first second h g = (b, refl, g)
  either_one mode.Inout ty (Some a) b first second h g = absurd (none-some a (sym h))

  pub both_given : (params : List ParamType) (first second : List (Option Value)) → PartWell w ks is_once params first → PartWell w ks not_once params second → GivenWell w ks false params (either first second)
  both_given [] [] [] h g = tt
  both_given [] (a ∷ first) second h g = absurd h
  both_given [] [] (b ∷ second) h g = absurd g
  both_given (q ∷ params) [] second h g = absurd h
  both_given (q ∷ params) (a ∷ first) [] h g = absurd g
  both_given (q ∷ params) (a ∷ first) (b ∷ second) h g =
      let one = either_one q.mode q.ty a b first second h.0 g.0 in
      subst (GivenWell w ks false (q ∷ params)) (sym one.1) (one.2, both_given params first second h.1 g.1)
