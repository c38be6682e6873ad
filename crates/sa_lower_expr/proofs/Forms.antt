-- What each form of a well-typed expression gives, and so what it gives once it is lowered.
use Rattle.std.proofs.Common.{◌≡◌, inl, inr, ◌<◌, ℕ, ℤ, Bool, true, false, not, ◌&&◌, if◌then◌else◌, List, length, get_or, Option, Some, None, option_and_then, option_map, is_some, slice_get, refl, sym, ap, subst, ◌∙◌, true≢false, eqb-true, ◌==◌, All}
use Rattle.std.specs.Prelude.{IsTrue}
use Rattle.std.specs.Option.{option_map_or}
use Rattle.std.proofs.lemmas.Option.{slice_get_within, get_or_from_slice_get}
use Rattle.sa_ast.specs.declared.pos.Pos.{Pos}
use Rattle.sa_typed.specs.declared.expr.TypedArg.{TypedArg}
use Rattle.sa_typed.specs.declared.expr.TypedExpr.{TypedExpr}
use Rattle.sa_typed.specs.declared.expr.TypedExpr.TheVariants as e
use Rattle.sa_typed.specs.declared.feature.TypedCallee.{TypedCallee}
use Rattle.sa_typed.specs.declared.feature.Site.{Site}
use Rattle.sa_typed.specs.declared.feature.Target.{Target}
use Rattle.sa_typed.specs.Copy.{args_of, expr_of, exprs_of}
use Rattle.sa_typed.specs.Tree.{Expr}
use Rattle.sa_typed.proofs.Copies as copy
use Rattle.sa_cfg_builder.specs.declared.context.CaughtException.{CaughtException}
use Rattle.sa_cfg_builder.specs.declared.context.LoopExits.{LoopExits}
use Rattle.sa_typing.specs.declared.expr_type.ExprType.{ExprType}
use Rattle.sa_typing.specs.declared.expr_type.ExprType.TheVariants.{NoValue, Of, BoxedOf}
use Rattle.sa_typing.specs.declared.expr_type.ResolvedCallee.{ResolvedCallee}
use Rattle.sa_typing.specs.declared.expr_type.ResolvedCallee.TheVariants as reach
use Rattle.sa_typing.specs.declared.context.TypingContext.{TypingContext}
use Rattle.sa_typing.specs.Builtins.{bool_type, char_type, int_type, str_type}
use Rattle.sa_typing.specs.Calls.{is_iter, reached, result_type}
use Rattle.sa_typing.specs.Expressions.{are_assignable, args_fit, bound_args_fit, type_of_expr}
use Rattle.sa_typing.specs.Forms.{type_of_array, callee_of_bind, callee_of_call, called_in, type_of_connective, elements_type, is_comparison, plain_if, result_if, site_called, type_of_reversed, takes_first, type_of_test, type_of_boxed}
use Rattle.sa_typing.specs.ExprType.{agree, is_just, is_plain, is_value, result_of}
use Rattle.sa_typing.specs.Contexts.{Env, is_in_loop}
use Rattle.sa_typing.specs.Rows.{Rows, has_array, has_objects, is_immutable, is_type}
use Rattle.sa_typing.specs.Targets.{is_target_iter, target_arity, target_parameter, target_result}
use Rattle.sa_lower_expr.specs.declared.context.ExprContext.{ExprContext}
use Rattle.sa_lower_expr.specs.declared.lowered.LoweredExpr.{LoweredExpr}
use Rattle.sa_lower_expr.specs.ExprContext.{IsLowered, IsResult, expr_context, env_of}
use Rattle.sa_lower_expr.specs.Kinds.{IsCall}
use Rattle.sa_lower_expr.specs.Typed.{Gives, HasValue, IsArgument, IsPlain, IsTyped, gives_value}
use Rattle.sa_lower_expr.proofs.Parts.{args_have, bind_typed, call_typed, on_of, plain_on, reached_of}
use Rattle.sa_lower_expr.proofs.Values.{first_of, has_value, if_some, second_of, then_some, typed_as, value_typed}

-- ---- options

some_if : {A : Type 0} (b : Bool) (x : A) → IsTrue (is_some (if b then Some x else None)) → (if b then Some x else None) ≡ Some x
some_if true x h = refl
some_if false x h = absurd (true≢false (sym h))

last_is : {A B : Type 0} (k : A → Option B) (o : Option A) (x : B) → ((y : A) → IsTrue (is_some (k y)) → k y ≡ Some x) → IsTrue (is_some (option_and_then k o)) → option_and_then k o ≡ Some x
last_is k None x each h = absurd (true≢false (sym h))
last_is k (Some y) x each h = each y h

chain_is : (k : ResolvedCallee → Option ExprType) (fits : Bool) (x : ExprType) (r : ResolvedCallee) (b : Bool) → k r ≡ (if fits then Some x else None) → IsTrue (is_some (option_and_then k (if b then Some r else None))) → option_and_then k (if b then Some r else None) ≡ Some x
chain_is k fits x r true is h = is ∙ some_if fits x (subst (λ (o : Option ExprType). IsTrue (is_some o)) is h)
chain_is k fits x r false is h = absurd (true≢false (sym h))

just_is : (n : ℕ) (o : Option ℕ) → IsTrue (is_just n o) → o ≡ Some n
just_is n None h = absurd (true≢false (sym h))
just_is n (Some found) h = ap (λ (m : ℕ). Some m) (eqb-true found n h)

-- a comparison gives a BOOL
compared : (w : Rows) (class : ℕ) (target : Target) (g : ExprType) → IsTrue (is_comparison w class target g) → result_of (target_result w class target) ≡ Of bool_type
compared w class target g h =
    ap result_of (just_is bool_type (target_result w class target)
    (second_of (takes_first w (target_parameter w class target 0) g) _
    (second_of (not (is_target_iter w target)) _
    (second_of (is_just 1 (target_arity w class target)) _ h))))

swapped_on : (w : Rows) (target : Target) (first g : ExprType) → IsTrue (is_some (type_of_reversed w target first g)) → IsPlain g
swapped_on w target first NoValue h = h
swapped_on w target first (Of class) h = refl
swapped_on w target first (BoxedOf own) h = h

module _ (f : Env) (at : TypingContext) where
  gives_as : (e : TypedExpr) (x : Expr) (g : ExprType) → expr_of e ≡ x → type_of_expr f at x ≡ Some g → Gives f at e g
  unfolding Gives
  gives_as e x g is given = ap (type_of_expr f at) is ∙ given

  -- ---- forms without subexpressions

  pub int-gives : (value : ℤ) → Gives f at (e.Int value) (Of int_type)
  int-gives value = gives_as (e.Int value) _ _ (copy.expr_of-Int value) refl

  pub bool-gives : (value : Bool) → Gives f at (e.Bool value) (Of bool_type)
  bool-gives value = gives_as (e.Bool value) _ _ (copy.expr_of-Bool value) refl

  pub char-gives : (value : ℕ) → Gives f at (e.Char value) (Of char_type)
  char-gives value = gives_as (e.Char value) _ _ (copy.expr_of-Char value) refl

  pub text-gives : (value : List ℕ) → Gives f at (e.Text value) (Of str_type)
  text-gives value = gives_as (e.Text value) _ _ (copy.expr_of-Text value) refl

  pub void-gives : (ty : ℕ) → IsTyped f at (e.VoidValue ty) → Gives f at (e.VoidValue ty) (Of ty)
  void-gives ty h = gives_as (e.VoidValue ty) _ _ (copy.expr_of-VoidOf ty) (some_if (is_type f.rows ty) (Of ty) (typed_as f at (e.VoidValue ty) _ (copy.expr_of-VoidOf ty) h))

  pub me-gives : Gives f at e.SelfRef (Of f.class)
  me-gives = gives_as e.SelfRef _ _ copy.expr_of-Me refl

  pub new-gives : (ty : ℕ) (pos : Pos) → IsTyped f at (e.New ty pos) → Gives f at (e.New ty pos) (Of ty)
  new-gives ty pos h = gives_as (e.New ty pos) _ _ (copy.expr_of-New ty pos) (some_if _ (Of ty) (typed_as f at (e.New ty pos) _ (copy.expr_of-New ty pos) h))

  variable_there : (var : ℕ) (o : Option ℕ) → slice_get f.vars var ≡ o → IsTrue (is_some (option_map (λ ty. Of ty) o)) → var < length f.vars
  variable_there var None is h = absurd (true≢false (sym h))
  variable_there var (Some ty) is h = slice_get_within f.vars var ty is

  pub var-there : (var : ℕ) → IsTyped f at (e.Var var) → var < length f.vars
  var-there var h = variable_there var (slice_get f.vars var) refl (typed_as f at (e.Var var) _ (copy.expr_of-Var var) h)

  variable_is : (var d : ℕ) (o : Option ℕ) → slice_get f.vars var ≡ o → IsTrue (is_some (option_map (λ ty. Of ty) o)) → option_map (λ ty. Of ty) o ≡ Some (Of (get_or f.vars var d))
  variable_is var d None is h = absurd (true≢false (sym h))
  variable_is var d (Some ty) is h = ap (λ (n : ℕ). Some (Of n)) (sym (get_or_from_slice_get f.vars var ty d is))

  pub var-gives : (var d : ℕ) → IsTyped f at (e.Var var) → Gives f at (e.Var var) (Of (get_or f.vars var d))
  var-gives var d h = gives_as (e.Var var) _ _ (copy.expr_of-Var var) (variable_is var d (slice_get f.vars var) refl (typed_as f at (e.Var var) _ (copy.expr_of-Var var) h))

  -- ---- forms of operands

  pub is-void-gives : (of : TypedExpr) → IsTyped f at (e.IsVoid of) → Gives f at (e.IsVoid of) (Of bool_type)
  is-void-gives of h = gives_as (e.IsVoid of) _ _ (copy.expr_of-IsVoid of) (last_is type_of_test (type_of_expr f at (expr_of of)) (Of bool_type) (λ g. some_if (is_value g) (Of bool_type)) (typed_as f at (e.IsVoid of) _ (copy.expr_of-IsVoid of) h))

  pub array-gives : (ty : ℕ) (size : TypedExpr) (pos : Pos) → IsTyped f at (e.NewArray ty size pos) → Gives f at (e.NewArray ty size pos) (Of ty)
  array-gives ty size pos h = gives_as (e.NewArray ty size pos) _ _ (copy.expr_of-NewArray ty size pos) (last_is (type_of_array f.rows ty) (type_of_expr f at (expr_of size)) (Of ty) (λ g. some_if (is_plain int_type g && (has_objects f.rows ty && has_array f.rows ty)) (Of ty)) (typed_as f at (e.NewArray ty size pos) _ (copy.expr_of-NewArray ty size pos) h))

  pub elements-give : (ty : ℕ) (list : List TypedExpr) (pos : Pos) → IsTyped f at (e.Array ty list pos) → Gives f at (e.Array ty list pos) (Of ty)
  elements-give ty list pos h = gives_as (e.Array ty list pos) _ _ (copy.expr_of-Items ty list pos) (last_is (λ element. plain_if ty (are_assignable f at element (exprs_of list))) (elements_type f.rows ty) (Of ty) (λ element. some_if (are_assignable f at element (exprs_of list)) (Of ty)) (typed_as f at (e.Array ty list pos) _ (copy.expr_of-Items ty list pos) h))

  pub widen-gives : (ty : ℕ) (of : TypedExpr) (pos : Pos) → IsTyped f at (e.Box ty of pos) → Gives f at (e.Box ty of pos) (BoxedOf ty)
  widen-gives ty of pos h = gives_as (e.Box ty of pos) _ _ (copy.expr_of-Widen ty of pos) (last_is (type_of_boxed f.rows ty) (type_of_expr f at (expr_of of)) (BoxedOf ty) (λ g. some_if (is_plain ty g && is_immutable f.rows ty) (BoxedOf ty)) (typed_as f at (e.Box ty of pos) _ (copy.expr_of-Widen ty of pos) h))

  connected_is : (left right : Option ExprType) → IsTrue (is_some (option_and_then (λ x. option_and_then (λ y. type_of_connective x y) right) left)) → option_and_then (λ x. option_and_then (λ y. type_of_connective x y) right) left ≡ Some (Of bool_type)
  connected_is left right = last_is (λ x. option_and_then (λ y. type_of_connective x y) right) left (Of bool_type) (λ x. last_is (λ y. type_of_connective x y) right (Of bool_type) (λ y. some_if (is_plain bool_type x && is_plain bool_type y) (Of bool_type)))

  pub and-gives : (left right : TypedExpr) → IsTyped f at (e.And left right) → Gives f at (e.And left right) (Of bool_type)
  and-gives left right h = gives_as (e.And left right) _ _ (copy.expr_of-And left right) (connected_is (type_of_expr f at (expr_of left)) (type_of_expr f at (expr_of right)) (typed_as f at (e.And left right) _ (copy.expr_of-And left right) h))

  pub or-gives : (left right : TypedExpr) → IsTyped f at (e.Or left right) → Gives f at (e.Or left right) (Of bool_type)
  or-gives left right h = gives_as (e.Or left right) _ _ (copy.expr_of-Or left right) (connected_is (type_of_expr f at (expr_of left)) (type_of_expr f at (expr_of right)) (typed_as f at (e.Or left right) _ (copy.expr_of-Or left right) h))

  -- ---- calls

  type_is : (w : Rows) (called : TypedCallee) (on : TypedExpr) (g : ExprType) (r : ResolvedCallee) (k : ResolvedCallee → Option ExprType) (m : ResolvedCallee → Bool) (fits : Bool) (x : ExprType) → Gives f at on g → reached w called g ≡ Some r → k r ≡ (if fits then Some x else None) → IsTrue (is_some (option_and_then (λ g. option_and_then k (option_and_then (λ r. if m r then Some r else None) (reached w called g))) (type_of_expr f at (expr_of on)))) → option_and_then (λ g. option_and_then k (option_and_then (λ r. if m r then Some r else None) (reached w called g))) (type_of_expr f at (expr_of on)) ≡ Some x
  unfolding Gives
  type_is w called on g r k m fits x is reaches last h =
      let same = ap (option_and_then (λ g. option_and_then k (option_and_then (λ r. if m r then Some r else None) (reached w called g)))) is
      ∙ ap (λ (o : Option ResolvedCallee). option_and_then k (option_and_then (λ r. if m r then Some r else None) o)) reaches in
      same ∙ chain_is k fits x r (m r) last (subst (λ (o : Option ExprType). IsTrue (is_some o)) same h)

  pub call-gives : (called : TypedCallee) (on : TypedExpr) (args : List TypedArg) (pos : Pos) (g : ExprType) (r : ResolvedCallee) → IsTyped f at (e.Call called on args pos) → Gives f at on g → ((w : Rows) → IsTrue (is_some (reached w called g)) → reached w called g ≡ Some r) → Gives f at (e.Call called on args pos) (result_of (result_type f.rows r))
  call-gives called on args pos g r h is reaches =
      let k : (ResolvedCallee → Option ExprType) = λ r. result_if f.rows r (args_fit f at r 0 (args_of args)) in
      let some = reached_of f at f.rows called on g k (λ r. if agree (is_iter f.rows r) false then Some r else None) is (call_typed f at called on args pos h) in
      gives_as (e.Call called on args pos) _ _ (copy.expr_of-Call called on args pos)
      (type_is f.rows called on g r k (λ r. agree (is_iter f.rows r) false) (args_fit f at r 0 (args_of args)) (result_of (result_type f.rows r)) is (reaches f.rows some) refl (call_typed f at called on args pos h))

  pub bind-gives : (called : TypedCallee) (on : TypedExpr) (args : List TypedArg) (ty : ℕ) (pos : Pos) → IsTyped f at (e.Bind called on args ty pos) → Gives f at (e.Bind called on args ty pos) (Of ty)
  bind-gives called on args ty pos h =
      let k : (ResolvedCallee → Option ExprType) = λ r. plain_if ty (bound_args_fit f at r (reach.Bound ty) 0 0 (args_of args)) in
      gives_as (e.Bind called on args ty pos) _ _ (copy.expr_of-Bind called on args ty pos)
      (last_is (λ g. option_and_then k (callee_of_bind f.rows called g ty)) (type_of_expr f at (expr_of on)) (Of ty)
      (λ g. last_is k (callee_of_bind f.rows called g ty) (Of ty) (λ r. some_if (bound_args_fit f at r (reach.Bound ty) 0 0 (args_of args)) (Of ty)))
      (bind_typed f at called on args ty pos h))

  -- ---- calls of iters

  -- by what the site calls
  abbrev iter_by : TypedExpr → List TypedArg → TypedCallee → Option ExprType
  iter_by on args called = option_and_then (λ g. option_and_then (λ r. result_if f.rows r (args_fit f at r 0 (args_of args))) (callee_of_call f.rows called g true)) (type_of_expr f at (expr_of on))

  iter_typed : (site : ℕ) (on : TypedExpr) (args : List TypedArg) (pos : Pos) → IsTyped f at (e.IterCall site on args pos) → IsTrue (is_some (option_and_then (iter_by on args) (site_called f at site)))
  iter_typed site on args pos h = typed_as f at (e.IterCall site on args pos) _ (copy.expr_of-IterCall site on args pos) h

  site_of : (site : ℕ) (on : TypedExpr) (args : List TypedArg) (pos : Pos) → IsTyped f at (e.IterCall site on args pos) → (s : Site) × (slice_get f.sites site ≡ Some s) × IsTrue (is_in_loop s.owner at)
  site_of site on args pos h =
      let t = then_some (iter_by on args) (site_called f at site) (iter_typed site on args pos h) in
      let u = then_some (called_in at) (slice_get f.sites site) (ap is_some t.1) in
      (u.0, u.1, if_some (is_in_loop u.0.owner at) u.0.called u.2)

  site_is : (site : ℕ) (d : Site) (s : Site) → slice_get f.sites site ≡ Some s → IsTrue (is_in_loop s.owner at) → site_called f at site ≡ Some (get_or f.sites site d).called
  site_is site d s is inside =
      ap (option_and_then (called_in at)) is
      ∙ ap (λ b. if b then Some s.called else None) inside
      ∙ ap (λ (x : Site). Some x.called) (sym (get_or_from_slice_get f.sites site s d is))

  iter_same : (site : ℕ) (d : Site) (on : TypedExpr) (args : List TypedArg) (pos : Pos) → IsTyped f at (e.IterCall site on args pos) → option_and_then (iter_by on args) (site_called f at site) ≡ iter_by on args (get_or f.sites site d).called
  iter_same site d on args pos h =
      let found = site_of site on args pos h in
      ap (option_and_then (iter_by on args)) (site_is site d found.0 found.1 found.2)

  iter_called : (site : ℕ) (d : Site) (on : TypedExpr) (args : List TypedArg) (pos : Pos) → IsTyped f at (e.IterCall site on args pos) → IsTrue (is_some (iter_by on args (get_or f.sites site d).called))
  iter_called site d on args pos h = subst (λ (o : Option ExprType). IsTrue (is_some o)) (iter_same site d on args pos h) (iter_typed site on args pos h)

  pub site-there : (site : ℕ) (on : TypedExpr) (args : List TypedArg) (pos : Pos) → IsTyped f at (e.IterCall site on args pos) → site < length f.sites
  site-there site on args pos h = let found = site_of site on args pos h in slice_get_within f.sites site found.0 found.1

  pub iter-on : (site : ℕ) (on : TypedExpr) (args : List TypedArg) (pos : Pos) → IsTyped f at (e.IterCall site on args pos) → HasValue f at on
  iter-on site on args pos h =
      let found = site_of site on args pos h in
      on_of f at f.rows (get_or f.sites site found.0).called on (λ r. result_if f.rows r (args_fit f at r 0 (args_of args))) (λ r. if agree (is_iter f.rows r) true then Some r else None) (iter_called site found.0 on args pos h)

  pub iter-args : (site : ℕ) (on : TypedExpr) (args : List TypedArg) (pos : Pos) → IsTyped f at (e.IterCall site on args pos) → All (IsArgument f at) args
  iter-args site on args pos h =
      let t = then_some (iter_by on args) (site_called f at site) (iter_typed site on args pos h) in
      let u = then_some (λ g. option_and_then (λ r. result_if f.rows r (args_fit f at r 0 (args_of args))) (callee_of_call f.rows t.0 g true)) (type_of_expr f at (expr_of on)) t.2 in
      let v = then_some (λ r. result_if f.rows r (args_fit f at r 0 (args_of args))) (callee_of_call f.rows t.0 u.0 true) u.2 in
      args_have f at v.0 0 args (if_some _ _ v.2)

  iter_reached : (site : ℕ) (d : Site) (on : TypedExpr) (args : List TypedArg) (pos : Pos) (g : ExprType) → IsTyped f at (e.IterCall site on args pos) → Gives f at on g → IsTrue (is_some (reached f.rows (get_or f.sites site d).called g))
  iter_reached site d on args pos g h is =
      reached_of f at f.rows (get_or f.sites site d).called on g (λ r. result_if f.rows r (args_fit f at r 0 (args_of args))) (λ r. if agree (is_iter f.rows r) true then Some r else None) is (iter_called site d on args pos h)

  pub iter-plain : (site : ℕ) (on : TypedExpr) (args : List TypedArg) (pos : Pos) (g : ExprType) → IsTyped f at (e.IterCall site on args pos) → Gives f at on g → IsPlain g
  iter-plain site on args pos g h is =
      let found = site_of site on args pos h in
      plain_on f.rows (get_or f.sites site found.0).called g (iter_reached site found.0 on args pos g h is)

  pub iter-gives : (site : ℕ) (d : Site) (on : TypedExpr) (args : List TypedArg) (pos : Pos) (g : ExprType) (r : ResolvedCallee) → IsTyped f at (e.IterCall site on args pos) → Gives f at on g → ((w : Rows) → IsTrue (is_some (reached w (get_or f.sites site d).called g)) → reached w (get_or f.sites site d).called g ≡ Some r) → Gives f at (e.IterCall site on args pos) (result_of (result_type f.rows r))
  iter-gives site d on args pos g r h is reaches =
      gives_as (e.IterCall site on args pos) _ _ (copy.expr_of-IterCall site on args pos)
      (iter_same site d on args pos h
      ∙ type_is f.rows (get_or f.sites site d).called on g r (λ r. result_if f.rows r (args_fit f at r 0 (args_of args))) (λ r. agree (is_iter f.rows r) true) (args_fit f at r 0 (args_of args)) (result_of (result_type f.rows r)) is (reaches f.rows (iter_reached site d on args pos g h is)) refl (iter_called site d on args pos h))

  -- ---- reversed comparisons

  pub swapped-plain : (target : Target) (first second : TypedExpr) (pos : Pos) (g : ExprType) → IsTyped f at (e.Reversed target first second pos) → Gives f at second g → IsPlain g
  unfolding Gives
  swapped-plain target first second pos g h is =
      let t = then_some (λ x. option_and_then (λ y. type_of_reversed f.rows target x y) (type_of_expr f at (expr_of second))) (type_of_expr f at (expr_of first)) (typed_as f at (e.Reversed target first second pos) _ (copy.expr_of-Swapped target first second pos) h) in
      swapped_on f.rows target t.0 g (subst (λ (o : Option ExprType). IsTrue (is_some (option_and_then (λ y. type_of_reversed f.rows target t.0 y) o))) is t.2)

  pub swapped-gives : (target : Target) (first second : TypedExpr) (pos : Pos) (class : ℕ) → IsTyped f at (e.Reversed target first second pos) → Gives f at second (Of class) → Gives f at (e.Reversed target first second pos) (result_of (target_result f.rows class target))
  unfolding Gives
  swapped-gives target first second pos class h is =
      let typed = typed_as f at (e.Reversed target first second pos) _ (copy.expr_of-Swapped target first second pos) h in
      let t = then_some (λ x. option_and_then (λ y. type_of_reversed f.rows target x y) (type_of_expr f at (expr_of second))) (type_of_expr f at (expr_of first)) typed in
      let last = subst (λ (o : Option ExprType). IsTrue (is_some (option_and_then (λ y. type_of_reversed f.rows target t.0 y) o))) is t.2 in
      ap (type_of_expr f at) (copy.expr_of-Swapped target first second pos)
      ∙ ap (option_and_then (λ x. option_and_then (λ y. type_of_reversed f.rows target x y) (type_of_expr f at (expr_of second)))) t.1
      ∙ ap (option_and_then (λ y. type_of_reversed f.rows target t.0 y)) is
      ∙ some_if (is_comparison f.rows class target t.0) (Of bool_type) last
      ∙ ap (λ g. Some g) (sym (compared f.rows class target t.0 (if_some (is_comparison f.rows class target t.0) (Of bool_type) last)))

-- ---- contexts

in_loop_some : (k : ℕ → Bool) (o : Option LoopExits) → IsTrue (option_map_or k (option_map (λ (l : LoopExits). l.number) o) false) → IsTrue (is_some o)
in_loop_some k None h = h
in_loop_some k (Some l) h = refl

branch_some : (o : Option CaughtException) → IsTrue (is_some (option_map (λ ty. Of ty) (option_map (λ (x : CaughtException). x.ty) o))) → IsTrue (is_some o)
branch_some None h = h
branch_some (Some x) h = refl

pub loop-there : (a : ExprContext) (site : ℕ) (on : TypedExpr) (args : List TypedArg) (pos : Pos) → IsTyped (env_of a) (expr_context a) (e.IterCall site on args pos) → IsTrue (is_some a.inside.now.innermost)
loop-there a site on args pos h =
    let found = site_of (env_of a) (expr_context a) site on args pos h in
    in_loop_some (λ owner. owner == found.0.owner && not a.inside.now.guarded) a.inside.now.innermost found.2

pub exception-there : (a : ExprContext) → IsTyped (env_of a) (expr_context a) e.Exception → IsTrue (is_some a.inside.now.exception)
exception-there a h = branch_some a.inside.now.exception (typed_as (env_of a) (expr_context a) e.Exception _ copy.expr_of-Exception h)

pub exception-gives : (a : ExprContext) (x : CaughtException) → a.inside.now.exception ≡ Some x → Gives (env_of a) (expr_context a) e.Exception (Of x.ty)
exception-gives a x is =
    gives_as (env_of a) (expr_context a) e.Exception _ _ copy.expr_of-Exception (ap (λ (o : Option CaughtException). option_map (λ ty. Of ty) (option_map (λ (x : CaughtException). x.ty) o)) is)

-- ---- what is lowered

pub placed-value : (a : ExprContext) (x : TypedExpr) (p : LoweredExpr) (g : ExprType) → Gives (env_of a) (expr_context a) x g → p.given ≡ g → IsTrue (is_value g) → IsTrue (is_some p.var) → IsLowered a x p
placed-value a x p g gives is value there =
    record { given = subst (λ (y : ExprType). Gives (env_of a) (expr_context a) x y) (sym is) gives; var = there ∙ sym value ∙ sym (ap is_value is) }

pub placed-result : (a : ExprContext) (x : TypedExpr) (p : LoweredExpr) (r : ResolvedCallee) → Gives (env_of a) (expr_context a) x (result_of (result_type (env_of a).rows r)) → IsResult (env_of a).rows r p → IsLowered a x p
placed-result a x p r gives is =
    record { given = subst (λ (y : ExprType). Gives (env_of a) (expr_context a) x y) (sym is.given) gives; var = is.var }

pub me-placed : (a : ExprContext) (p : LoweredExpr) → p.given ≡ Of a.scope.now.class → IsTrue (is_some p.var) → IsLowered a e.SelfRef p
me-placed a p is there = placed-value a e.SelfRef p (Of a.scope.now.class) (me-gives (env_of a) (expr_context a)) is refl there

pub var-placed : (a : ExprContext) (var d : ℕ) (p : LoweredExpr) → IsTyped (env_of a) (expr_context a) (e.Var var) → p.given ≡ Of (get_or a.scope.now.vars.now var d) → IsTrue (is_some p.var) → IsLowered a (e.Var var) p
var-placed a var d p h is there = placed-value a (e.Var var) p (Of (get_or a.scope.now.vars.now var d)) (var-gives (env_of a) (expr_context a) var d h) is refl there

pub iter-placed : (a : ExprContext) (site : ℕ) (d : Site) (on : TypedExpr) (args : List TypedArg) (pos : Pos) (g : ExprType) (r : ResolvedCallee) (p : LoweredExpr) → IsTyped (env_of a) (expr_context a) (e.IterCall site on args pos) → Gives (env_of a) (expr_context a) on g → ((w : Rows) → IsTrue (is_some (reached w (get_or a.scope.now.sites.now site d).called g)) → reached w (get_or a.scope.now.sites.now site d).called g ≡ Some r) → IsResult (env_of a).rows r p → IsLowered a (e.IterCall site on args pos) p
iter-placed a site d on args pos g r p h is reaches result =
    placed-result a (e.IterCall site on args pos) p r (iter-gives (env_of a) (expr_context a) site d on args pos g r h is reaches) result

-- a value is in a variable once it is lowered
pub value-there : (a : ExprContext) (x : TypedExpr) (p : LoweredExpr) → HasValue (env_of a) (expr_context a) x → IsLowered a x p → IsTrue (is_some p.var)
unfolding HasValue gives_value Gives
value-there a x p h is = is.var ∙ sym (ap (λ (o : Option ExprType). option_map_or is_value o false) is.given) ∙ h

pub placed-gives : (a : ExprContext) (x : TypedExpr) (p : LoweredExpr) → IsLowered a x p → is_some p.var ≡ gives_value (env_of a) (expr_context a) x
unfolding gives_value Gives
placed-gives a x p is = is.var ∙ sym (ap (λ (o : Option ExprType). option_map_or is_value o false) is.given)

-- ---- which forms are calls

pub call-is : (called : TypedCallee) (on : TypedExpr) (args : List TypedArg) (pos : Pos) → IsCall (e.Call called on args pos)
unfolding IsCall
call-is called on args pos = inl (called, on, args, pos, refl)

pub iter-is : (site : ℕ) (on : TypedExpr) (args : List TypedArg) (pos : Pos) → IsCall (e.IterCall site on args pos)
unfolding IsCall
iter-is site on args pos = inr (inl (site, on, args, pos, refl))

pub bind-is : (called : TypedCallee) (on : TypedExpr) (args : List TypedArg) (ty : ℕ) (pos : Pos) → IsCall (e.Bind called on args ty pos)
unfolding IsCall
bind-is called on args ty pos = inr (inr (inl (called, on, args, ty, pos, refl)))

pub swapped-is : (target : Target) (first second : TypedExpr) (pos : Pos) → IsCall (e.Reversed target first second pos)
unfolding IsCall
swapped-is target first second pos = inr (inr (inr (target, first, second, pos, refl)))

pub no-other : (x : TypedExpr) → IsCall x
    → ((called : TypedCallee) (on : TypedExpr) (args : List TypedArg) (pos : Pos) → x ≡ e.Call called on args pos → ⊥)
    → ((site : ℕ) (on : TypedExpr) (args : List TypedArg) (pos : Pos) → x ≡ e.IterCall site on args pos → ⊥)
    → ((called : TypedCallee) (on : TypedExpr) (args : List TypedArg) (ty : ℕ) (pos : Pos) → x ≡ e.Bind called on args ty pos → ⊥)
    → ((target : Target) (first second : TypedExpr) (pos : Pos) → x ≡ e.Reversed target first second pos → ⊥)
    → ⊥
unfolding IsCall
no-other x (inl h) call iter bind swapped = call h.0 h.1 h.2 h.3 h.4
no-other x (inr (inl h)) call iter bind swapped = iter h.0 h.1 h.2 h.3 h.4
no-other x (inr (inr (inl h))) call iter bind swapped = bind h.0 h.1 h.2 h.3 h.4 h.5
no-other x (inr (inr (inr h))) call iter bind swapped = swapped h.0 h.1 h.2 h.3 h.4

pub ruleset leaves = (int-gives, bool-gives, char-gives, text-gives, void-gives, me-gives, new-gives, var-there, var-gives, exception-there, exception-gives, placed-value, me-placed, var-placed)

pub ruleset forms = (is-void-gives, array-gives, elements-give, widen-gives, and-gives, or-gives, bind-gives, call-is, iter-is, bind-is, swapped-is, placed-value, placed-result)

pub ruleset calls = (call-gives, bind-gives, site-there, iter-on, iter-args, iter-plain, iter-placed, swapped-plain, swapped-gives, loop-there, placed-value, placed-result)

pub ruleset placed = (value_typed, value-there, placed-gives)
