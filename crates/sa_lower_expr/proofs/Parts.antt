-- The subexpressions of a well-typed expression are well typed, and what that expression gives.
use Rattle.std.proofs.Common.{◌≡◌, ℕ, ◌+◌, Bool, true, false, not, ◌&&◌, if◌then◌else◌, List, [], ◌∷◌, Option, Some, None, option_and_then, is_some, slice_get, refl, sym, ap, subst, ◌∙◌, true≢false, All}
use Rattle.std.specs.Prelude.{IsTrue}
use Rattle.std.proofs.lemmas.List.Elements.{All-nil, All-cons}
use Rattle.std.proofs.lemmas.Option.{same_Some, none-some, slice_get_within}
use Rattle.sa_ast.specs.declared.pos.Pos.{Pos}
use Rattle.sa_ast.specs.declared.ty.Mode.{Mode}
use Rattle.sa_ast.specs.TypeEquality.{same_mode}
use Rattle.sa_typed.specs.declared.expr.TypedArg.{TypedArg}
use Rattle.sa_typed.specs.declared.expr.TypedArg.TheVariants as a
use Rattle.sa_typed.specs.declared.expr.TypedExpr.{TypedExpr, the_lemmas}
use Rattle.sa_typed.specs.declared.expr.TypedExpr.TheVariants as e
use Rattle.sa_typed.specs.declared.feature.TypedCallee.{TypedCallee}
use Rattle.sa_typed.specs.declared.feature.TypedCallee.TheVariants as called
use Rattle.sa_typed.specs.declared.feature.Target.{Target}
use Rattle.sa_typed.specs.Copy.{arg_of, args_of, expr_of, exprs_of}
use Rattle.sa_typed.proofs.Copies as copy
use Rattle.sa_typing.specs.declared.expr_type.ExprType.{ExprType}
use Rattle.sa_typing.specs.declared.expr_type.ExprType.TheVariants.{NoValue, Of, BoxedOf}
use Rattle.sa_typing.specs.declared.expr_type.ParamType.{ParamType}
use Rattle.sa_typing.specs.declared.expr_type.ResolvedCallee.{ResolvedCallee}
use Rattle.sa_typing.specs.declared.expr_type.ResolvedCallee.TheVariants as reach
use Rattle.sa_typing.specs.declared.context.TypingContext.{TypingContext}
use Rattle.sa_typing.specs.Binds.{is_bindable}
use Rattle.sa_typing.specs.Calls.{is_iter, parameter, reached}
use Rattle.sa_typing.specs.Expressions.{are_assignable, arg_fits, bound_arg_fits, args_fit, is_open, bound_args_fit, type_of_expr}
use Rattle.sa_typing.specs.Forms.{callee_of_call, callee_of_bind, type_of_array, elements_type, plain_if, result_if, type_of_test, value_fits, is_assignable_type, type_of_boxed, type_of_reversed, type_of_connective, is_comparison, takes_first, has_bound_type}
use Rattle.sa_typing.specs.ExprType.{agree, is_just, is_plain, is_value}
use Rattle.sa_typing.specs.Passing.{is_value_mode}
use Rattle.sa_typing.specs.Contexts.{Env}
use Rattle.sa_typing.specs.Rows.{Rows, call_type_at}
use Rattle.sa_typing.specs.Targets.{is_target_iter, target_arity, target_parameter}
use Rattle.sa_typing.specs.Builtins.{bool_type, int_type}
use Rattle.sa_lower_expr.proofs.Values.{first_of, goes_has, goes_value, has_value, if_some, plain_value, second_of, then_some, typed_as}
use Rattle.sa_lower_expr.specs.ExprContext.{IsThere}
use Rattle.sa_lower_expr.specs.Typed.{Gives, HasValue, IsArgument, IsPlain, IsTyped}

takes_value_of : (w : Rows) (p : Option ParamType) (g : ExprType) → IsTrue (takes_first w p g) → IsTrue (is_value g)
takes_value_of w None g h = absurd (true≢false (sym h))
takes_value_of w (Some p) g h = goes_value w g p.ty (second_of (is_value_mode p.mode) _ (second_of (same_mode p.mode p.mode) _ h))

swapped_first : (w : Rows) (target : Target) (g second : ExprType) → IsTrue (is_some (type_of_reversed w target g second)) → IsTrue (is_value g)
swapped_first w target g NoValue h = absurd (true≢false (sym h))
swapped_first w target g (BoxedOf own) h = absurd (true≢false (sym h))
swapped_first w target g (Of class) h =
    takes_value_of w (target_parameter w class target 0) g
    (first_of (takes_first w (target_parameter w class target 0) g) _
    (second_of (not (is_target_iter w target)) _
    (second_of (is_just 1 (target_arity w class target)) _ (if_some (is_comparison w class target g) _ h))))

swapped_second : (w : Rows) (target : Target) (g second : ExprType) → IsTrue (is_some (type_of_reversed w target g second)) → IsTrue (is_value second)
swapped_second w target g NoValue h = h
swapped_second w target g (BoxedOf own) h = refl
swapped_second w target g (Of class) h = refl

-- a receiver is a value that isn't boxed
pub plain_is : (g : ExprType) (ty : ℕ) → IsTrue (is_plain ty g) → IsPlain g
plain_is NoValue ty h = h
plain_is (Of own) ty h = refl
plain_is (BoxedOf own) ty h = h

pub plain_on : (w : Rows) (called : TypedCallee) (g : ExprType) → IsTrue (is_some (reached w called g)) → IsPlain g
plain_on w (called.Static target class) g h = plain_is g class (first_of (is_plain class g) _ (if_some _ _ h))
plain_on w (called.Dispatch k) g h =
    let t = then_some (λ s. if is_plain s.ty g then Some (reach.Signature k) else None) (slice_get w.signatures k) h in
    plain_is g t.0.ty (if_some _ _ t.2)
plain_on w called.Bound NoValue h = h
plain_on w called.Bound (Of ty) h = refl
plain_on w called.Bound (BoxedOf own) h = h

pub plain_given : (g : ExprType) → IsPlain g → IsTrue (is_value g)
plain_given NoValue h = h
plain_given (Of ty) h = refl
plain_given (BoxedOf ty) h = refl

if_is : {A : Type 0} (b : Bool) (x y : A) → (if b then Some x else None) ≡ Some y → x ≡ y
if_is true x y is = same_Some x y is
if_is false x y is = absurd (none-some y is)

-- a signature that a call resolves to is one of the program
pub there_on : (w : Rows) (called : TypedCallee) (g : ExprType) (r : ResolvedCallee) → reached w called g ≡ Some r → IsThere w r
there_on w (called.Static target class) g r is =
    subst (IsThere w) (if_is (is_plain class g && is_some (target_arity w class target)) (reach.Target target class) r is) tt
there_on w (called.Dispatch k) g r is =
    let t = then_some (λ s. if is_plain s.ty g then Some (reach.Signature k) else None) (slice_get w.signatures k) (ap is_some is) in
    subst (IsThere w) (if_is (is_plain t.0.ty g) (reach.Signature k) r (sym (ap (option_and_then (λ s. if is_plain s.ty g then Some (reach.Signature k) else None)) t.1) ∙ is)) (slice_get_within w.signatures k t.0 t.1)
there_on w called.Bound NoValue r is = absurd (none-some r is)
there_on w called.Bound (Of ty) r is = subst (IsThere w) (if_is (is_some (call_type_at w.bound ty)) (reach.Bound ty) r is) tt
there_on w called.Bound (BoxedOf own) r is = absurd (none-some r is)

module _ (f : Env) (at : TypingContext) where
  fits_has : (w : Rows) (p : Option ParamType) (mode : Mode) (e : TypedExpr) (o : Option ExprType) → type_of_expr f at (expr_of e) ≡ o → IsTrue (value_fits w p mode o) → HasValue f at e
  fits_has w None mode e o is h = absurd (true≢false (sym h))
  fits_has w (Some p) mode e None is h = absurd (true≢false (sym h))
  fits_has w (Some p) mode e (Some g) is h =
      has_value f at e g is (goes_value w g p.ty (second_of (is_value_mode mode) _ (second_of (same_mode p.mode mode) _ h)))

  -- ---- lists

  elements_have : (ty : ℕ) (list : List TypedExpr) → IsTrue (are_assignable f at ty (exprs_of list)) → All (HasValue f at) list
  elements_have ty [] h = All-nil (HasValue f at)
  elements_have ty (e ∷ more) h =
      All-cons (HasValue f at) e more
      (goes_has f at f.rows ty e (type_of_expr f at (expr_of e)) refl (first_of (is_assignable_type f.rows ty (type_of_expr f at (expr_of e))) _ h))
      (elements_have ty more (second_of (is_assignable_type f.rows ty (type_of_expr f at (expr_of e))) _ h))

  arg_has : (p : Option ParamType) (arg : TypedArg) → IsTrue (arg_fits f at p (arg_of arg)) → IsArgument f at arg
  arg_has p (a.Value mode value) h =
      fits_has f.rows p mode value (type_of_expr f at (expr_of value)) refl (subst (λ x. IsTrue (arg_fits f at p x)) (copy.arg_of-Value mode value) h)
  arg_has p (a.Variable mode var) h = tt
  arg_has p a.Open h = tt

  kept_has : (p next : Option ParamType) (arg : TypedArg) → IsTrue (bound_arg_fits f at p next (arg_of arg)) → IsArgument f at arg
  kept_has p next (a.Value mode value) h =
      fits_has f.rows p mode value (type_of_expr f at (expr_of value)) refl (subst (λ x. IsTrue (bound_arg_fits f at p next x)) (copy.arg_of-Value mode value) h)
  kept_has p next (a.Variable mode var) h = tt
  kept_has p next a.Open h = tt

  pub args_have : (r : ResolvedCallee) (place : ℕ) (list : List TypedArg) → IsTrue (args_fit f at r place (args_of list)) → All (IsArgument f at) list
  args_have r place [] h = All-nil (IsArgument f at)
  args_have r place (x ∷ more) h =
      All-cons (IsArgument f at) x more
      (arg_has (parameter f.rows r place) x (first_of (arg_fits f at (parameter f.rows r place) (arg_of x)) _ h))
      (args_have r (place + 1) more (second_of (arg_fits f at (parameter f.rows r place) (arg_of x)) _ h))

  bound_have : (r bound : ResolvedCallee) (place next : ℕ) (list : List TypedArg) → IsTrue (bound_args_fit f at r bound place next (args_of list)) → All (IsArgument f at) list
  bound_have r bound place next [] h = All-nil (IsArgument f at)
  bound_have r bound place next (x ∷ more) h =
      All-cons (IsArgument f at) x more
      (kept_has (parameter f.rows r place) (parameter f.rows bound next) x (first_of (bound_arg_fits f at (parameter f.rows r place) (parameter f.rows bound next) (arg_of x)) _ h))
      (bound_have r bound (place + 1) (if is_open (arg_of x) then next + 1 else next) more (second_of (bound_arg_fits f at (parameter f.rows r place) (parameter f.rows bound next) (arg_of x)) _ h))

  -- ---- parts of forms

  pub void-of : (of : TypedExpr) → IsTyped f at (e.IsVoid of) → HasValue f at of
  void-of of h =
      let t = then_some type_of_test (type_of_expr f at (expr_of of)) (typed_as f at (e.IsVoid of) _ (copy.expr_of-IsVoid of) h) in
      has_value f at of t.0 t.1 (if_some (is_value t.0) _ t.2)

  pub size-of : (ty : ℕ) (size : TypedExpr) (pos : Pos) → IsTyped f at (e.NewArray ty size pos) → HasValue f at size
  size-of ty size pos h =
      let t = then_some (type_of_array f.rows ty) (type_of_expr f at (expr_of size)) (typed_as f at (e.NewArray ty size pos) _ (copy.expr_of-NewArray ty size pos) h) in
      has_value f at size t.0 t.1 (plain_value t.0 int_type (first_of (is_plain int_type t.0) _ (if_some _ _ t.2)))

  pub elements-of : (ty : ℕ) (list : List TypedExpr) (pos : Pos) → IsTyped f at (e.Array ty list pos) → All (HasValue f at) list
  elements-of ty list pos h =
      let t = then_some (λ element. plain_if ty (are_assignable f at element (exprs_of list))) (elements_type f.rows ty) (typed_as f at (e.Array ty list pos) _ (copy.expr_of-Items ty list pos) h) in
      elements_have t.0 list (if_some _ _ t.2)

  pub first-of : (target : Target) (first second : TypedExpr) (pos : Pos) → IsTyped f at (e.Reversed target first second pos) → HasValue f at first
  first-of target first second pos h =
      let t = then_some (λ x. option_and_then (λ y. type_of_reversed f.rows target x y) (type_of_expr f at (expr_of second))) (type_of_expr f at (expr_of first)) (typed_as f at (e.Reversed target first second pos) _ (copy.expr_of-Swapped target first second pos) h) in
      let u = then_some (λ y. type_of_reversed f.rows target t.0 y) (type_of_expr f at (expr_of second)) t.2 in
      has_value f at first t.0 t.1 (swapped_first f.rows target t.0 u.0 u.2)

  pub second-of : (target : Target) (first second : TypedExpr) (pos : Pos) → IsTyped f at (e.Reversed target first second pos) → HasValue f at second
  second-of target first second pos h =
      let t = then_some (λ x. option_and_then (λ y. type_of_reversed f.rows target x y) (type_of_expr f at (expr_of second))) (type_of_expr f at (expr_of first)) (typed_as f at (e.Reversed target first second pos) _ (copy.expr_of-Swapped target first second pos) h) in
      let u = then_some (λ y. type_of_reversed f.rows target t.0 y) (type_of_expr f at (expr_of second)) t.2 in
      has_value f at second u.0 u.1 (swapped_second f.rows target t.0 u.0 u.2)

  connected_first : (left right : TypedExpr) → IsTrue (is_some (option_and_then (λ x. option_and_then (λ y. type_of_connective x y) (type_of_expr f at (expr_of right))) (type_of_expr f at (expr_of left)))) → HasValue f at left
  connected_first left right h =
      let t = then_some (λ x. option_and_then (λ y. type_of_connective x y) (type_of_expr f at (expr_of right))) (type_of_expr f at (expr_of left)) h in
      let u = then_some (λ y. type_of_connective t.0 y) (type_of_expr f at (expr_of right)) t.2 in
      has_value f at left t.0 t.1 (plain_value t.0 bool_type (first_of (is_plain bool_type t.0) _ (if_some _ _ u.2)))

  connected_second : (left right : TypedExpr) → IsTrue (is_some (option_and_then (λ x. option_and_then (λ y. type_of_connective x y) (type_of_expr f at (expr_of right))) (type_of_expr f at (expr_of left)))) → HasValue f at right
  connected_second left right h =
      let t = then_some (λ x. option_and_then (λ y. type_of_connective x y) (type_of_expr f at (expr_of right))) (type_of_expr f at (expr_of left)) h in
      let u = then_some (λ y. type_of_connective t.0 y) (type_of_expr f at (expr_of right)) t.2 in
      has_value f at right u.0 u.1 (plain_value u.0 bool_type (second_of (is_plain bool_type t.0) _ (if_some _ _ u.2)))

  pub left-of-and : (left right : TypedExpr) → IsTyped f at (e.And left right) → HasValue f at left
  left-of-and left right h = connected_first left right (typed_as f at (e.And left right) _ (copy.expr_of-And left right) h)

  pub right-of-and : (left right : TypedExpr) → IsTyped f at (e.And left right) → HasValue f at right
  right-of-and left right h = connected_second left right (typed_as f at (e.And left right) _ (copy.expr_of-And left right) h)

  pub left-of-or : (left right : TypedExpr) → IsTyped f at (e.Or left right) → HasValue f at left
  left-of-or left right h = connected_first left right (typed_as f at (e.Or left right) _ (copy.expr_of-Or left right) h)

  pub right-of-or : (left right : TypedExpr) → IsTyped f at (e.Or left right) → HasValue f at right
  right-of-or left right h = connected_second left right (typed_as f at (e.Or left right) _ (copy.expr_of-Or left right) h)

  pub widen-of : (ty : ℕ) (of : TypedExpr) (pos : Pos) → IsTyped f at (e.Box ty of pos) → HasValue f at of
  widen-of ty of pos h =
      let t = then_some (type_of_boxed f.rows ty) (type_of_expr f at (expr_of of)) (typed_as f at (e.Box ty of pos) _ (copy.expr_of-Widen ty of pos) h) in
      has_value f at of t.0 t.1 (plain_value t.0 ty (first_of (is_plain ty t.0) _ (if_some _ _ t.2)))

  -- ---- what calls resolve to

  pub given_by : {A : Type 0} (k : ExprType → Option A) (e : TypedExpr) (g : ExprType) → Gives f at e g → IsTrue (is_some (option_and_then k (type_of_expr f at (expr_of e)))) → IsTrue (is_some (k g))
  unfolding Gives
  given_by k e g is h = subst (λ (o : Option ExprType). IsTrue (is_some (option_and_then k o))) is h

  pub call_typed : (called : TypedCallee) (on : TypedExpr) (args : List TypedArg) (pos : Pos) → IsTyped f at (e.Call called on args pos) → IsTrue (is_some (option_and_then (λ g. option_and_then (λ r. result_if f.rows r (args_fit f at r 0 (args_of args))) (callee_of_call f.rows called g false)) (type_of_expr f at (expr_of on))))
  call_typed called on args pos h = typed_as f at (e.Call called on args pos) _ (copy.expr_of-Call called on args pos) h

  pub bind_typed : (called : TypedCallee) (on : TypedExpr) (args : List TypedArg) (ty : ℕ) (pos : Pos) → IsTyped f at (e.Bind called on args ty pos) → IsTrue (is_some (option_and_then (λ g. option_and_then (λ r. plain_if ty (bound_args_fit f at r (reach.Bound ty) 0 0 (args_of args))) (callee_of_bind f.rows called g ty)) (type_of_expr f at (expr_of on))))
  bind_typed called on args ty pos h = typed_as f at (e.Bind called on args ty pos) _ (copy.expr_of-Bind called on args ty pos) h

  -- what a call of this kind resolves to, on what its receiver gives
  pub on_of : (w : Rows) (called : TypedCallee) (on : TypedExpr) (k : ResolvedCallee → Option ExprType) (m : ResolvedCallee → Option ResolvedCallee) → IsTrue (is_some (option_and_then (λ g. option_and_then k (option_and_then m (reached w called g))) (type_of_expr f at (expr_of on)))) → HasValue f at on
  on_of w called on k m h =
      let t = then_some (λ g. option_and_then k (option_and_then m (reached w called g))) (type_of_expr f at (expr_of on)) h in
      let u = then_some k (option_and_then m (reached w called t.0)) t.2 in
      let v = then_some m (reached w called t.0) (ap is_some u.1) in
      has_value f at on t.0 t.1 (plain_given t.0 (plain_on w called t.0 (ap is_some v.1)))

  pub reached_of : (w : Rows) (called : TypedCallee) (on : TypedExpr) (g : ExprType) (k : ResolvedCallee → Option ExprType) (m : ResolvedCallee → Option ResolvedCallee) → Gives f at on g → IsTrue (is_some (option_and_then (λ g. option_and_then k (option_and_then m (reached w called g))) (type_of_expr f at (expr_of on)))) → IsTrue (is_some (reached w called g))
  reached_of w called on g k m is h =
      let u = then_some k (option_and_then m (reached w called g)) (given_by (λ g. option_and_then k (option_and_then m (reached w called g))) on g is h) in
      let v = then_some m (reached w called g) (ap is_some u.1) in
      ap is_some v.1

  pub call-on : (called : TypedCallee) (on : TypedExpr) (args : List TypedArg) (pos : Pos) → IsTyped f at (e.Call called on args pos) → HasValue f at on
  call-on called on args pos h = on_of f.rows called on (λ r. result_if f.rows r (args_fit f at r 0 (args_of args))) (λ r. if agree (is_iter f.rows r) false then Some r else None) (call_typed called on args pos h)

  pub call-args : (called : TypedCallee) (on : TypedExpr) (args : List TypedArg) (pos : Pos) → IsTyped f at (e.Call called on args pos) → All (IsArgument f at) args
  call-args called on args pos h =
      let t = then_some (λ g. option_and_then (λ r. result_if f.rows r (args_fit f at r 0 (args_of args))) (callee_of_call f.rows called g false)) (type_of_expr f at (expr_of on)) (call_typed called on args pos h) in
      let u = then_some (λ r. result_if f.rows r (args_fit f at r 0 (args_of args))) (callee_of_call f.rows called t.0 false) t.2 in
      args_have u.0 0 args (if_some _ _ u.2)

  pub call-reached : (called : TypedCallee) (on : TypedExpr) (args : List TypedArg) (pos : Pos) (g : ExprType) → IsTyped f at (e.Call called on args pos) → Gives f at on g → IsTrue (is_some (reached f.rows called g))
  call-reached called on args pos g h is = reached_of f.rows called on g (λ r. result_if f.rows r (args_fit f at r 0 (args_of args))) (λ r. if agree (is_iter f.rows r) false then Some r else None) is (call_typed called on args pos h)

  pub call-plain : (called : TypedCallee) (on : TypedExpr) (args : List TypedArg) (pos : Pos) (g : ExprType) → IsTyped f at (e.Call called on args pos) → Gives f at on g → IsPlain g
  call-plain called on args pos g h is = plain_on f.rows called g (call-reached called on args pos g h is)

  pub bind-on : (called : TypedCallee) (on : TypedExpr) (args : List TypedArg) (ty : ℕ) (pos : Pos) → IsTyped f at (e.Bind called on args ty pos) → HasValue f at on
  bind-on called on args ty pos h = on_of f.rows called on (λ r. plain_if ty (bound_args_fit f at r (reach.Bound ty) 0 0 (args_of args))) (λ r. if is_bindable called && has_bound_type f.rows ty r then Some r else None) (bind_typed called on args ty pos h)

  pub bind-args : (called : TypedCallee) (on : TypedExpr) (args : List TypedArg) (ty : ℕ) (pos : Pos) → IsTyped f at (e.Bind called on args ty pos) → All (IsArgument f at) args
  bind-args called on args ty pos h =
      let t = then_some (λ g. option_and_then (λ r. plain_if ty (bound_args_fit f at r (reach.Bound ty) 0 0 (args_of args))) (callee_of_bind f.rows called g ty)) (type_of_expr f at (expr_of on)) (bind_typed called on args ty pos h) in
      let u = then_some (λ r. plain_if ty (bound_args_fit f at r (reach.Bound ty) 0 0 (args_of args))) (callee_of_bind f.rows called t.0 ty) t.2 in
      bound_have u.0 (reach.Bound ty) 0 0 args (if_some _ _ u.2)

  pub bind-reached : (called : TypedCallee) (on : TypedExpr) (args : List TypedArg) (ty : ℕ) (pos : Pos) (g : ExprType) → IsTyped f at (e.Bind called on args ty pos) → Gives f at on g → IsTrue (is_some (reached f.rows called g))
  bind-reached called on args ty pos g h is = reached_of f.rows called on g (λ r. plain_if ty (bound_args_fit f at r (reach.Bound ty) 0 0 (args_of args))) (λ r. if is_bindable called && has_bound_type f.rows ty r then Some r else None) is (bind_typed called on args ty pos h)

  pub bind-plain : (called : TypedCallee) (on : TypedExpr) (args : List TypedArg) (ty : ℕ) (pos : Pos) (g : ExprType) → IsTyped f at (e.Bind called on args ty pos) → Gives f at on g → IsPlain g
  bind-plain called on args ty pos g h is = plain_on f.rows called g (bind-reached called on args ty pos g h is)

  pub bind-there : (called : TypedCallee) (on : TypedExpr) (args : List TypedArg) (ty : ℕ) (pos : Pos) (g : ExprType) (r : ResolvedCallee) → IsTyped f at (e.Bind called on args ty pos) → Gives f at on g → (IsTrue (is_some (reached f.rows called g)) → reached f.rows called g ≡ Some r) → IsThere f.rows r
  bind-there called on args ty pos g r h is to = there_on f.rows called g r (to (bind-reached called on args ty pos g h is))

pub ruleset parts = (the_lemmas, void-of, size-of, elements-of, first-of, second-of, left-of-and, right-of-and, left-of-or, right-of-or, widen-of)

pub ruleset receivers = (the_lemmas, call-on, call-args, call-plain, bind-on, bind-args, bind-plain, bind-there, first-of, second-of)
