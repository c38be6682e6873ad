-- Expressions are safe, and give what their types say.
use Rattle.std.proofs.Common.{◌≡◌, ℕ, zero, suc, ◌+◌, inl, inr, Bool, true, false, not, ◌&&◌, ◌||◌, ◌==◌, if◌then◌else◌, List, [], ◌∷◌, ◌++◌, map, length, replicate, Option, Some, None, slice_get, option_map, option_and_then, is_some, is_none, refl, sym, ap, ap₂, subst, ◌∙◌, true≢false, eqb-true, arith}
use Rattle.std.specs.Prelude.{ℤ, pos, int_lt}
use Rattle.std.specs.Option.{option_map_or}
use Rattle.std.proofs.lemmas.Option.{same_Some, none-some}
use Rattle.sa_ast.specs.declared.class.ClassKind.{ClassKind}
use Rattle.sa_ast.specs.declared.class.ClassKind.TheVariants as kind
use Rattle.sa_ast.specs.declared.fault_kind.FaultKind.TheVariants as fault_kind
use Rattle.sa_ast.specs.declared.pos.Pos.{Pos}
use Rattle.sa_ast.specs.declared.ty.Mode.{Mode}
use Rattle.sa_ast.specs.declared.ty.Mode.TheVariants as mode
use Rattle.sa_ast.specs.TypeEquality.{same_mode}
use Rattle.sa_typed.specs.declared.feature.TypedCallee.{TypedCallee}
use Rattle.sa_typed.specs.declared.feature.TypedCallee.TheVariants as called
use Rattle.sa_typed.specs.declared.feature.TypedFeature.{TypedFeature}
use Rattle.sa_typed.specs.declared.feature.Site.{Site}
use Rattle.sa_typed.specs.declared.feature.Target.{Target}
use Rattle.sa_typed.specs.declared.feature.Target.TheVariants as target
use Rattle.sa_typed.specs.declared.program.TypeDef.{TypeDef}
use Rattle.sa_typed.specs.Tree as tree
use Rattle.sa_typed.specs.Tree.{Expr, VoidValue, SelfRef, Var, Exception, IsVoid, New, NewArray, Array, Call, IterCall, Bind, Reversed, And, Or, Box, Exprs, no_exprs, expr, Arg, Variable, Open, Args, no_args, arg}
use Rattle.sa_typing.specs.declared.expr_type.ExprType.{ExprType}
use Rattle.sa_typing.specs.declared.expr_type.ExprType.TheVariants.{NoValue, Of, BoxedOf}
use Rattle.sa_typing.specs.declared.expr_type.ParamType.{ParamType}
use Rattle.sa_typing.specs.declared.expr_type.ResolvedCallee.{ResolvedCallee}
use Rattle.sa_typing.specs.declared.expr_type.ResolvedCallee.TheVariants as reach
use Rattle.sa_typing.specs.declared.context.TypingContext.{TypingContext}
use Rattle.sa_prelude.specs.declared.feature.BuiltinFeature.TheVariants.{ArrayCreate}
use Rattle.sa_typing.specs.Rows.{Rows, is_abstract_kind, is_immutable_kind, is_reference_kind, element_of, has_array, has_objects, is_supertype, is_immutable, is_reference, is_type, call_type_at}
use Rattle.sa_typing.specs.Builtins.{bool_type, char_type, int_type, str_type}
use Rattle.sa_typing.specs.Calls.{arity, parameter, reached, result_type, is_iter}
use Rattle.sa_typing.specs.Expressions.{are_assignable, args_fit, arg_fits, bound_arg_fits, bound_args_fit, type_of_expr}
use Rattle.sa_typing.specs.Forms.{type_of_array, callee_of_bind, callee_of_call, called_in, elements_type, plain_if, result_if, site_called, type_of_reversed, is_comparison, takes_first, has_bound_type, type_of_test, value_fits, is_assignable_type, type_of_boxed}
use Rattle.sa_typing.specs.ExprType.{agree, same_type, is_assignable, is_just, is_plain, is_value, result_of}
use Rattle.sa_typing.specs.Features.{are_types, is_type_or_none}
use Rattle.sa_typing.specs.Binds.{is_bindable, is_bound_alike, is_open_alike}
use Rattle.sa_typing.specs.Signatures.{param_conforms, type_conforms, result_conforms}
use Rattle.sa_typing.specs.declared.call_type.CallType.{CallType}
use Rattle.sa_typing.specs.Passing.{is_assignable_back, is_value_mode, takes_value}
use Rattle.sa_typing.specs.Contexts.{Env, is_in_loop, may_leave}
use Rattle.sa_typing.specs.Targets.{is_target_iter, target_arity, target_parameter, target_result}
use Rattle.sa_typing.specs.Sites.{is_bound_call, calls_bound, with_type, expr_sites, exprs_sites, arg_sites, args_sites}
use Rattle.sa_typing.specs.Types.{has_layout, fits_kind}
use Rattle.sa_semantics.specs.Program.{Program, type_row, feature_of, void_of}
use Rattle.sa_semantics.specs.Value.{Value, Void, Int, Truth, Char, Text, Ref, Imm, Bound, Boxed, is_void, as_int, as_truth}
use Rattle.sa_semantics.specs.Sequence.{◌>>=◌, pure, at_index}
use Rattle.sa_semantics.specs.State.{Continuation, Completion, SiteInstances, Instance, Object}
use Rattle.sa_semantics.specs.Steps.{Eval, plain}
use Rattle.sa_semantics.specs.Builtin.{new_array, index_of}
use Rattle.sa_semantics.specs.Calls as calls
use Rattle.sa_semantics.specs.Calls.{ResolvedCall, PassedArgs, callee, pass_args, only_given, boxed_where, is_once, is_unboxed, boxed, boxed_from, box_value}
use Rattle.sa_semantics.specs.Instances.{CallSite, find_instance, start, start_of, resume}
use Rattle.sa_semantics.specs.Evaluation.{this_site, call_site, iter_call, either, bound, bound_value, evaluate, evaluate_all, evaluate_args, evaluate_arg, every, not_once, is_read, variables_of, truth_of, new_object, array_of}
use Rattle.sa_type_safety.specs.Typing.{Each, ObjectType, heap_typing, HeapExtends, CodeEnv, IsLocal, IsCallee, Takes, Conform, AreBound, InstanceWell, local_of, HasType, HasTypeIf, HaveTypes, ExceptionWell, ObjectWell, AreBoundTypes, attributes}
use Rattle.sa_type_safety.proofs.Facts as facts
use Rattle.sa_type_safety.proofs.Facts.{first_of, second_of, one_of, not_true}
use Rattle.sa_type_safety.proofs.ProgramFacts.{ProgramFacts, AreTheWide}
use Rattle.sa_type_safety.proofs.Worlds.{type_later, type_if_later, activation_later, reached_later, instance_later, sites_later, each_split, each_that}
use Rattle.sa_type_safety.proofs.Safe.{Point, Safe, Any, safe_then, safe_before, safe_looking, safe_with, safe_some, safe_if, safe_turn, safe_pure, safe_look, safe_that, extends_trans}
use Rattle.sa_type_safety.proofs.SafeSteps.{safe_charge, safe_add_object, safe_fault, safe_read}
use Rattle.sa_type_safety.proofs.Passing.{ArgThat, GivenWell, arg_that, same_modes, holds_itself, goes_on, safe_widened_if}
use Rattle.sa_type_safety.proofs.PassedArgs.{PassedArgsWell, given_arg, param_conforms_itself, all_wide_of, hands_later, safe_handed}
use Rattle.sa_type_safety.proofs.Forms.{int_form, truth_form, raw_is}
use Rattle.sa_type_safety.proofs.SafeRoutines.{IsSafe, count_of, voids_well, class_is}
use Rattle.sa_type_safety.proofs.SafeInstances.{CallSiteWell, FoundWell, found_well, safe_begun, safe_resume}
use Rattle.sa_type_safety.proofs.SafeCalls.{GivenIs, CalleeWell, bound_of, bound_reached, some_signature, callee_as, callee_later, given_later_is, is_if, safe_callee}
use Rattle.sa_type_safety.proofs.SafeTargets.{safe_reached}
use Rattle.sa_type_safety.proofs.SafeCall.{ParamsAre, safe_call, sees_of, static_params, shape_params, shape_result}
use Rattle.sa_type_safety.proofs.SafeArguments.{given_goes, params_of, ArgsAre, args_many, args_are, value_given, variable_is, backs_of, PartOf, PartWell, all_given, rest_given, both_given}

not_fixed : (n : ClassKind) → is_reference_kind n ≡ true → is_immutable_kind n ≡ false
not_fixed kind.Reference e = refl
not_fixed _ e = absurd (true≢false (sym e))

same_agree : (a b : Bool) → a ≡ b → agree a b ≡ true
same_agree true b e = subst (λ i. agree true i ≡ true) e refl
same_agree false b e = subst (λ i. agree false i ≡ true) e refl

-- ---- options

some_then : {A B : Type 0} (f : A → Option B) (o : Option A) (b : B) → option_and_then f o ≡ Some b → (a : A) × (o ≡ Some a) × (f a ≡ Some b)
some_then f None b e = absurd (none-some b e)
some_then f (Some a) b e = (a, refl, e)

some_map : {A B : Type 0} (f : A → B) (o : Option A) (b : B) → option_map f o ≡ Some b → (a : A) × (o ≡ Some a) × (f a ≡ b)
some_map f None b e = absurd (none-some b e)
some_map f (Some a) b e = (a, refl, same_Some (f a) b e)

module _ {w : Rows} {p : Program} (k : ProgramFacts w p) where
  -- ---- types of which there are objects

  type_row_of : (ty : ℕ) → has_objects w ty ≡ true → (t : TypeDef) × (slice_get w.types ty ≡ Some t)
  type_row_of ty h = let find_instance = facts.some_that _ (slice_get w.types ty) (first_of (is_reference w ty) _ h) in (find_instance.0, find_instance.1)

  layout_of : (ty : ℕ) (t : TypeDef) → slice_get w.types ty ≡ Some t → (are_types w t.attrs ≡ true) × (is_type_or_none w t.elem ≡ true)
  layout_of ty t e =
      let laid = first_of (has_layout w t) _ (second_of (fits_kind w ty t) _ (facts.type_at k.well ty t e)) in
      let after = second_of (t.slots == length t.attrs) _ laid in
      (first_of (are_types w t.attrs) _ after, first_of (is_type_or_none w t.elem) _ (second_of (are_types w t.attrs) _ after))

  attributes_is : (ty : ℕ) (t : TypeDef) → slice_get w.types ty ≡ Some t → attributes w ty ≡ t.attrs
  attributes_is ty t e = ap (λ o. option_map_or (λ (i : TypeDef). i.attrs) o []) e

  element_is : (ty : ℕ) (t : TypeDef) → slice_get w.types ty ≡ Some t → element_of w ty ≡ t.elem
  element_is ty t e = ap (λ o. option_map_or (λ (i : TypeDef). i.elem) o None) e

  -- an object with void attributes
  new_well : (ks : List ObjectType) (ty : ℕ) (t : TypeDef) (elements : List Value) → has_objects w ty ≡ true → slice_get w.types ty ≡ Some t → Each (HasTypeIf w ks (element_of w ty)) elements → ObjectWell w ks (plain ty (map (void_of p) t.attrs) elements)
  new_well ks ty t elements h e are = ((h, subst (HaveTypes w ks (map (void_of p) t.attrs)) (sym (attributes_is ty t e)) (voids_well k ks t.attrs (layout_of ty t e).0)), are)

  safe_made : {base : List ObjectType} {x : Point} (ty : ℕ) (o : Object) (number : ℕ) → has_objects w ty ≡ true → slice_get base number ≡ Some (record { ty = ty; binding = None }) → Safe w base x Value (λ ks v. HasType w ks v ty) (pure (Ref number))
  safe_made ty o number h e = safe_pure (Ref number) (λ ks f. type_later w f (Ref number) ty (ty, e, h, holds_itself k ty))

  safe_new_object : {base : List ObjectType} {x : Point} (at : Pos) (ty : ℕ) → has_objects w ty ≡ true → Safe w base x Value (λ ks v. HasType w ks v ty) (new_object p at ty)
  safe_new_object at ty h =
      let t = type_row_of ty h in
      safe_with _ (type_row t.0) (k.type_at ty t.0 t.1)
      (safe_before (safe_charge k.well at _)
      (λ ks e. safe_then (safe_add_object k.well _ (λ js f. new_well js ty t.0 [] h t.1 tt)) (λ js n f is. safe_made ty (plain ty [] []) n h is)))

  safe_array_of : {base : List ObjectType} {x : Point} (at : Pos) (ty : ℕ) (elements : List Value) → has_objects w ty ≡ true → Each (HasTypeIf w base (element_of w ty)) elements → Safe w base x Value (λ ks v. HasType w ks v ty) (array_of p at ty elements)
  safe_array_of at ty elements h are =
      let t = type_row_of ty h in
      safe_with _ (type_row t.0) (k.type_at ty t.0 t.1)
      (safe_before (safe_charge k.well at _)
      (λ ks e. safe_then (safe_add_object k.well _ (λ js f. new_well js ty t.0 elements h t.1 (each_that elements (type_if_later w (extends_trans e f) (element_of w ty)) are)))
      (λ js n f is. safe_made ty (plain ty [] []) n h is)))

  void_elements : (ks : List ObjectType) (elem : Option ℕ) (n : ℕ) → is_type_or_none w elem ≡ true → Each (HasTypeIf w ks elem) (replicate n (option_map_or (void_of p) elem Void))
  void_elements ks elem zero e = tt
  void_elements ks None (suc n) e = (tt, void_elements ks None n e)
  void_elements ks (Some ty) (suc n) e = (k.void_is ks ty e, void_elements ks (Some ty) n e)

  pub safe_new_array : {base : List ObjectType} {x : Point} (at : Pos) (ty : ℕ) (count : ℤ) → has_objects w ty ≡ true → Safe w base x Value (λ ks v. HasType w ks v ty) (new_array p ty at count)
  safe_new_array at ty count h =
      let t = type_row_of ty h in
      safe_if (int_lt count (pos 0)) (λ b. safe_fault k.well p fault_kind.Index at)
      (λ b. safe_with _ (type_row t.0) (k.type_at ty t.0 t.1)
      (safe_before (safe_charge k.well at _)
      (λ ks e. safe_then (safe_add_object k.well _ (λ js f. new_well js ty t.0 _ h t.1
      (subst (λ o. Each (HasTypeIf w js o) (replicate (index_of count) (option_map_or (void_of p) t.0.elem Void))) (sym (element_is ty t.0 t.1)) (void_elements js t.0.elem (index_of count) (layout_of ty t.0 t.1).1))))
      (λ js n f is. safe_made ty (plain ty [] []) n h is))))

-- ---- the types that subexpressions have

module _ (w : Rows) where
  all_go_each : (f : Env) (at : TypingContext) (ty : ℕ) (e : Expr) (more : Exprs) → are_assignable f at ty (expr e more) ≡ true → (is_assignable_type f.rows ty (type_of_expr f at e) ≡ true) × (are_assignable f at ty more ≡ true)
  all_go_each f at ty e more h = (first_of (is_assignable_type f.rows ty (type_of_expr f at e)) _ h, second_of (is_assignable_type f.rows ty (type_of_expr f at e)) _ h)

  value_goes_is : (ty : ℕ) (o : Option ExprType) → is_assignable_type w ty o ≡ true → (g : ExprType) × (o ≡ Some g) × (is_assignable w g ty ≡ true)
  value_goes_is ty None h = absurd (true≢false (sym h))
  value_goes_is ty (Some g) h = (g, refl, h)

  plain_given : (ty : ℕ) (b : Bool) (g : ExprType) → plain_if ty b ≡ Some g → (b ≡ true) × (Of ty ≡ g)
  plain_given ty true g e = (refl, same_Some (Of ty) g e)
  plain_given ty false g e = absurd (none-some g e)

  -- what an expression of this type gives, gives what it is said to give
  given_is : (ks : List ObjectType) (a g : ExprType) (v : Value) → a ≡ g → GivenIs w ks a v → GivenIs w ks g v
  given_is ks a g v e h = subst (λ (i : ExprType). GivenIs w ks i v) e h

  plain_of : (ty : ℕ) (g : ExprType) → is_plain ty g ≡ true → g ≡ Of ty
  plain_of ty NoValue e = absurd (true≢false (sym e))
  plain_of ty (Of own) e = ap (λ n. Of n) (eqb-true own ty e)
  plain_of ty (BoxedOf own) e = absurd (true≢false (sym e))

  result_is : (ks : List ObjectType) (ty : Option ℕ) (v : Value) → HasTypeIf w ks ty v → GivenIs w ks (result_of ty) v
  result_is ks None v h = tt
  result_is ks (Some ty) v h = h

  there_is : (ks : List ObjectType) (ty : ℕ) (o exception : Option _) → o ≡ Some ty → ExceptionWell w ks o exception → (v : Value) × (exception ≡ Some v) × HasType w ks v ty
  there_is ks ty None exception e h = absurd (none-some ty e)
  there_is ks ty (Some n) None e h = absurd h
  there_is ks ty (Some n) (Some v) e h = (v, refl, subst (HasType w ks v) (same_Some n ty e) h)

  agree_on : (a b : Bool) → agree a b ≡ true → a ≡ b
  agree_on true true e = refl
  agree_on false false e = refl
  agree_on true false e = absurd (true≢false (sym e))
  agree_on false true e = absurd (true≢false (sym e))

  -- an instance at a site, which is the other one too
  abbrev instance_at : (ks : List ObjectType) (l : CodeEnv) {i : Instance} {f : TypedFeature} {n site : ℕ} → n ≡ site → InstanceWell w ks l site i f → InstanceWell w ks l n i f
  instance_at ks l {i} {f} e h = record {
    is = h.is;
    iter = h.iter;
    self = h.self;
    variables = h.variables;
    left = h.left;
    called = h.called;
    at = ap (slice_get l.frame.sites) e ∙ h.at;
    own = h.own;
    takes = h.takes;
    reached = subst (λ m. IsCallee w ks h.called.called (l.bound_at m) f.class (target.Feature i.feature) h.own i.through) (sym e) h.reached;
  }

  elements_is : (b : Bool) (o : Option ℕ) (element : ℕ) → (if b then o else None) ≡ Some element → (b ≡ true) × (o ≡ Some element)
  elements_is true o element e = (refl, e)
  elements_is false o element e = absurd (none-some element e)

  part_later : {old new : List ObjectType} → HeapExtends old new → (b : Bool) (q : ParamType) (v : Option Value) → PartOf b (λ u. HasType w old u q.ty) q.mode v → PartOf b (λ u. HasType w new u q.ty) q.mode v
  part_later {old} {new} e true q v h = arg_that (λ u. HasType w old u q.ty) (λ u. HasType w new u q.ty) false q.mode v (λ u t. type_later w e u q.ty t) h
  part_later e false q v h = h

  parts_later : {old new : List ObjectType} → HeapExtends old new → (test : Mode → Bool) (params : List ParamType) (given : List (Option Value)) → PartWell w old test params given → PartWell w new test params given
  parts_later e test [] [] h = tt
  parts_later e test [] (v ∷ given) h = h
  parts_later e test (q ∷ params) [] h = h
  parts_later e test (q ∷ params) (v ∷ given) h = (part_later e (test q.mode) q v h.0, parts_later e test params given h.1)

  -- a variable that is read to be passed
  read_part : (ks : List ObjectType) (q : ParamType) (m : Mode) (ty : ℕ) → is_assignable_back w q.ty m ty ≡ true → (is_read m ≡ true → ty ≡ q.ty) × (is_read m ≡ false → ArgThat (λ u. HasType w ks u q.ty) false m None)
  read_part ks q mode.In ty e = absurd (true≢false (sym e))
  read_part ks q mode.Once ty e = absurd (true≢false (sym e))
  read_part ks q mode.Out ty e = ((λ r. absurd (true≢false (sym r))), (λ r. tt))
  read_part ks q mode.Inout ty e = ((λ r. eqb-true ty q.ty e), (λ r. absurd (true≢false r)))

  read_arg : (Q : Value → Type 0) (m : Mode) (v : Value) → is_read m ≡ true → Q v → ArgThat Q false m (Some v)
  read_arg Q mode.In v r h = h
  read_arg Q mode.Once v r h = h
  read_arg Q mode.Out v r h = absurd (true≢false (sym r))
  read_arg Q mode.Inout v r h = h

-- ---- the arguments of binds

-- An argument of a bind is stored, or is left open as the next parameter of the bound type.
abbrev pub KeptAre : Env → TypingContext → List ParamType → List ParamType → Args → Type 0
KeptAre f at [] [] no_args = Unit {0}
KeptAre f at (q ∷ own) next (arg (tree.Value m e) more) = (value_fits f.rows (Some q) m (type_of_expr f at e) ≡ true) × KeptAre f at own next more
KeptAre f at (q ∷ own) (n ∷ next) (arg Open more) = (is_open_alike (Some q) (Some n) ≡ true) × KeptAre f at own next more
KeptAre f at _ _ list = ⊥

-- the values that are stored, and none at the open arguments
abbrev pub KeptWell : Rows → List ObjectType → List ParamType → List ParamType → List (Option Value) → Type 0
KeptWell w ks [] [] [] = Unit {0}
KeptWell w ks (q ∷ own) next (Some v ∷ given) = (is_value_mode q.mode ≡ true) × HasType w ks v q.ty × KeptWell w ks own next given
KeptWell w ks (q ∷ own) (n ∷ next) (None ∷ given) = (n ≡ q) × KeptWell w ks own next given
KeptWell w ks _ _ given = ⊥

module _ (w : Rows) where
  kept_later : {old new : List ObjectType} → HeapExtends old new → (own next : List ParamType) (given : List (Option Value)) → KeptWell w old own next given → KeptWell w new own next given
  kept_later e [] [] [] h = tt
  kept_later e (q ∷ own) next (Some v ∷ given) h = (h.0, type_later w e v q.ty h.1, kept_later e own next given h.2)
  kept_later e (q ∷ own) (n ∷ next) (None ∷ given) h = (h.0, kept_later e own next given h.1)
  kept_later e [] (n ∷ next) given h = h
  kept_later e [] [] (v ∷ given) h = h
  kept_later e (q ∷ own) next [] h = h
  kept_later e (q ∷ own) [] (None ∷ given) h = h

  left_is : (q n : ParamType) → is_open_alike (Some q) (Some n) ≡ true → n ≡ q
  left_is q n e =
      ap₂ (λ m ty. record { mode = m; ty = ty }) (sym (same_modes q.mode n.mode (first_of (same_mode q.mode n.mode) (q.ty == n.ty) e))) (sym (eqb-true q.ty n.ty (second_of (same_mode q.mode n.mode) (q.ty == n.ty) e)))

-- ---- bound values

-- what is stored is of the target's types, and what is left open conforms
abbrev pub KeptFor : Rows → List ObjectType → List ParamType → List ParamType → List (Option Value) → Type 0
KeptFor w ks [] [] [] = Unit {0}
KeptFor w ks (o ∷ own) next (Some v ∷ given) = (is_value_mode o.mode ≡ true) × HasType w ks v o.ty × KeptFor w ks own next given
KeptFor w ks (o ∷ own) (n ∷ next) (None ∷ given) = (param_conforms w n (Some o) ≡ true) × KeptFor w ks own next given
KeptFor w ks _ _ given = ⊥

module _ {w : Rows} {p : Program} (k : ProgramFacts w p) where
  kept_bound : (ks : List ObjectType) (own next : List ParamType) (given : List (Option Value)) → KeptFor w ks own next given → AreBound w ks own (map is_none given) (only_given given) next
  kept_bound ks [] [] [] h = tt
  kept_bound ks (o ∷ own) next (Some v ∷ given) h = (h.0, h.1, kept_bound ks own next given h.2)
  kept_bound ks (o ∷ own) (n ∷ next) (None ∷ given) h = (h.0, kept_bound ks own next given h.1)
  kept_bound ks [] (n ∷ next) given h = absurd h
  kept_bound ks [] [] (v ∷ given) h = absurd h
  kept_bound ks (o ∷ own) next [] h = absurd h
  kept_bound ks (o ∷ own) [] (None ∷ given) h = absurd h

  for_later : {old new : List ObjectType} → HeapExtends old new → (own next : List ParamType) (given : List (Option Value)) → KeptFor w old own next given → KeptFor w new own next given
  for_later e [] [] [] h = tt
  for_later e (o ∷ own) next (Some v ∷ given) h = (h.0, type_later w e v o.ty h.1, for_later e own next given h.2)
  for_later e (o ∷ own) (n ∷ next) (None ∷ given) h = (h.0, for_later e own next given h.1)
  for_later e [] (n ∷ next) given h = h
  for_later e [] [] (v ∷ given) h = h
  for_later e (o ∷ own) next [] h = h
  for_later e (o ∷ own) [] (None ∷ given) h = h

  kept_for : (ks : List ObjectType) (own next : List ParamType) (given : List (Option Value)) → KeptWell w ks own next given → KeptFor w ks own next given
  kept_for ks [] [] [] h = tt
  kept_for ks (o ∷ own) next (Some v ∷ given) h = (h.0, h.1, kept_for ks own next given h.2)
  kept_for ks (o ∷ own) (n ∷ next) (None ∷ given) h = (subst (λ q. param_conforms w q (Some o) ≡ true) (sym h.0) (param_conforms_itself w o), kept_for ks own next given h.1)
  kept_for ks [] (n ∷ next) given h = h
  kept_for ks [] [] (v ∷ given) h = h
  kept_for ks (o ∷ own) next [] h = h
  kept_for ks (o ∷ own) [] (None ∷ given) h = h

  given_holds : (m : Mode) (ty own : ℕ) → is_value_mode m ≡ true → type_conforms w m ty own ≡ true → is_supertype w own ty ≡ true
  given_holds mode.In ty own g e = e
  given_holds mode.Once ty own g e = e
  given_holds mode.Out ty own g e = absurd (true≢false (sym g))
  given_holds mode.Inout ty own g e = absurd (true≢false (sym g))

  -- where nothing is boxed
  kept_plain : (ks : List ObjectType) (sees own next : List ParamType) (given : List (Option Value)) → Conform w sees own → AreTheWide w own [] → KeptWell w ks sees next given → KeptFor w ks own next given
  kept_plain ks [] [] [] [] c f h = tt
  kept_plain ks (q ∷ sees) (o ∷ own) next (Some v ∷ given) c f h = (
    subst (λ m. is_value_mode m ≡ true) (sym (same_modes o.mode q.mode (first_of (same_mode o.mode q.mode) (type_conforms w q.mode q.ty o.ty) c.0))) h.0,
    goes_on k ks v q.ty o.ty f.0 (given_holds q.mode q.ty o.ty h.0 (second_of (same_mode o.mode q.mode) (type_conforms w q.mode q.ty o.ty) c.0)) h.1,
    kept_plain ks sees own next given c.1 f.1 h.2,
  )
  kept_plain ks (q ∷ sees) (o ∷ own) (n ∷ next) (None ∷ given) c f h = (subst (λ r. param_conforms w r (Some o) ≡ true) (sym h.0) c.0, kept_plain ks sees own next given c.1 f.1 h.1)
  kept_plain ks [] [] [] (v ∷ given) c f h = h
  kept_plain ks [] [] (n ∷ next) given c f h = h
  kept_plain ks [] (o ∷ own) next given c f h = absurd c
  kept_plain ks (q ∷ sees) [] next given c f h = absurd c
  kept_plain ks (q ∷ sees) (o ∷ own) next [] c f h = absurd h
  kept_plain ks (q ∷ sees) (o ∷ own) [] (None ∷ given) c f h = absurd h

  subst_pure : {base : List ObjectType} {y : Point} (at : Pos) (flags : List Bool) → Safe w base y (List (Option Value)) (λ ks vs. KeptFor w ks [] [] vs) (boxed_where p at flags [])
  subst_pure at [] = safe_pure [] (λ ks e. tt)
  subst_pure at (b ∷ flags) = safe_pure [] (λ ks e. tt)

  -- what a signature's bind stores is boxed as its implementation wants it
  safe_widened_kept : {base : List ObjectType} {y : Point} (at : Pos) (flags : List Bool) (sees own next : List ParamType) (given : List (Option Value)) → Conform w sees own → AreTheWide w own flags → KeptWell w base sees next given → Safe w base y (List (Option Value)) (λ ks vs. KeptFor w ks own next vs) (boxed_where p at flags given)
  safe_widened_kept at flags [] [] [] [] c f h = subst_pure at flags
  safe_widened_kept at [] (q ∷ sees) (o ∷ own) next given c f h = safe_pure given (λ ks e. for_later e (o ∷ own) next given (kept_plain _ (q ∷ sees) (o ∷ own) next given c f h))
  safe_widened_kept at (b ∷ flags) (q ∷ sees) (o ∷ own) next (Some v ∷ given) c f h =
      let holding = given_holds q.mode q.ty o.ty h.0 (second_of (same_mode o.mode q.mode) (type_conforms w q.mode q.ty o.ty) c.0) in
      safe_then (safe_widened_if k at b v q.ty o.ty f.0 holding h.1)
      (λ ks u e is. safe_then (safe_widened_kept at flags sees own next given c.1 f.1 (kept_later w e sees next given h.2))
      (λ js us g are. safe_pure (Some u ∷ us) (λ hs i. (
        subst (λ m. is_value_mode m ≡ true) (sym (same_modes o.mode q.mode (first_of (same_mode o.mode q.mode) (type_conforms w q.mode q.ty o.ty) c.0))) h.0,
        type_later w (extends_trans g i) u o.ty is,
        for_later i own next us are,
      ))))
  safe_widened_kept at (b ∷ flags) (q ∷ sees) (o ∷ own) (n ∷ next) (None ∷ given) c f h =
      safe_then (safe_widened_kept at flags sees own next given c.1 f.1 h.1)
      (λ js us g are. safe_pure (None ∷ us) (λ hs i. (subst (λ r. param_conforms w r (Some o) ≡ true) (sym h.0) c.0, for_later i own next us are)))
  safe_widened_kept at flags [] [] [] (v ∷ given) c f h = absurd h
  safe_widened_kept at flags [] [] (n ∷ next) given c f h = absurd h
  safe_widened_kept at flags [] (o ∷ own) next given c f h = absurd c
  safe_widened_kept at flags (q ∷ sees) [] next given c f h = absurd c
  safe_widened_kept at (b ∷ flags) (q ∷ sees) (o ∷ own) next [] c f h = absurd h
  safe_widened_kept at (b ∷ flags) (q ∷ sees) (o ∷ own) [] (None ∷ given) c f h = absurd h

  safe_bound_value : {base : List ObjectType} {y : Point} (at : Pos) (ty : ℕ) (shape : CallType) (c : ResolvedCall) (class : ℕ) (own : List ParamType) (given : List (Option Value)) → call_type_at w.bound ty ≡ Some shape → c.class ≡ Some class → HasType w base c.self class → Takes w class c.target own → is_target_iter w c.target ≡ shape.iter → result_conforms w shape.result (target_result w class c.target) ≡ true → KeptFor w base own shape.params given → Safe w base y Value (λ ks v. HasType w ks v ty) (bound_value p at ty c given)
  safe_bound_value at ty shape c class own given e is me takes iters gives kept =
      safe_with _ class is
      (safe_before (safe_charge k.well at _)
      (λ ks f. safe_then (safe_add_object k.well _ (λ js g. (
        record {
          shape = shape;
          is = e;
          of_class = type_later w (extends_trans f g) c.self class me;
          own = own;
          takes = takes;
          arguments = kept_bound js own shape.params given (for_later (extends_trans f g) own shape.params given kept);
          iter = same_agree (is_target_iter w c.target) shape.iter iters;
          gives = gives;
        },
        tt,
      )))
      (λ js n g known. safe_pure (Bound n) (λ hs i. type_later w i (Bound n) ty (ty, record { target = c.target; class = class; is_open = map is_none given }, known, ap is_some e, holds_itself k ty)))))

  same_type_is : (a b : Option ℕ) → same_type a b ≡ true → a ≡ b
  same_type_is None None e = refl
  same_type_is None (Some b) e = absurd (true≢false (sym e))
  same_type_is (Some a) None e = absurd (true≢false (sym e))
  same_type_is (Some a) (Some b) e = ap (λ n. Some n) (eqb-true a b e)

  conforms_itself : (o : Option ℕ) → result_conforms w o o ≡ true
  conforms_itself None = refl
  conforms_itself (Some ty) = holds_itself k ty

  agree_with : (a b : Bool) → agree a b ≡ true → a ≡ b
  agree_with true true e = refl
  agree_with false false e = refl
  agree_with true false e = absurd (true≢false (sym e))
  agree_with false true e = absurd (true≢false (sym e))

  pub safe_bound : {base : List ObjectType} {y : Point} (at : Pos) (of : TypedCallee) (g : ExprType) (r : ResolvedCallee) (sees : List ParamType) (ty : ℕ) (shape : CallType) (v : Value) (given : List (Option Value)) → is_bindable of ≡ true → reached w of g ≡ Some r → ParamsAre w r sees → call_type_at w.bound ty ≡ Some shape → is_bound_alike w shape r ≡ true → GivenIs w base g v → KeptWell w base sees shape.params given → Safe w base y Value (λ ks u. HasType w ks u ty) (bound p at of ty v given)
  safe_bound {base} {y} at (called.Static u m) g r sees ty shape v given able e are shaped alike is kept =
      safe_then (safe_callee k at (called.Static u m) g r v e is (λ none. none-some (length sees) (sym none ∙ are.arity)))
      (λ ks c f well.
      let to_target = (is_if k (is_plain m g && is_some (target_arity w m u)) (reach.Target u m) r e).1 in
      let same : reach.Target c.target well.class ≡ r = ap₂ (λ t i. reach.Target t i) (sym well.reached.0) (sym well.reached.1) ∙ to_target in
      let all : sees ≡ well.own = static_params k c.target well.class sees well.own (subst (λ (q : ResolvedCallee). ParamsAre w q sees) (sym same) are) well.takes in
      let gives : shape.result ≡ target_result w well.class c.target = same_type_is shape.result (result_type w r) (second_of (agree shape.iter (is_iter w r)) _ alike) ∙ ap (result_type w) (sym same) in
      safe_then {P = λ js vs. vs ≡ given} (safe_pure given (λ js i. refl))
      (λ js vs i same_given. subst (λ list. Safe w js y Value (λ hs u. HasType w hs u ty) (bound_value p at ty c list)) (sym same_given)
      (safe_bound_value at ty shape c well.class well.own given shaped well.is (type_later w i c.self well.class well.self) well.takes
      (well.iters ∙ sym (agree_with shape.iter (is_iter w r) (first_of (agree shape.iter (is_iter w r)) _ alike)))
      (subst (λ o. result_conforms w shape.result o ≡ true) gives (conforms_itself shape.result))
      (subst (λ ps. KeptFor w js ps shape.params given) all (kept_for js sees shape.params given (kept_later w (extends_trans f i) sees shape.params given kept))))))
  safe_bound {base} {y} at (called.Dispatch n) g r sees ty shape v given able e are shaped alike is kept =
      safe_then (safe_callee k at (called.Dispatch n) g r v e is (λ none. none-some (length sees) (sym none ∙ are.arity)))
      (λ ks c f well.
      let find_instance = some_signature k n g (slice_get w.signatures n) r refl e in
      let mine : ParamsAre w (reach.Signature n) sees = subst (λ (q : ResolvedCallee). ParamsAre w q sees) (sym find_instance.2) are in
      let theirs : sees ≡ well.reached.1.params = shape_params k well.reached.1 (call_type_at w.shapes n) sees well.reached.3 mine.each in
      let result : shape.result ≡ well.reached.1.result =
      same_type_is shape.result (result_type w r) (second_of (agree shape.iter (is_iter w r)) _ alike) ∙ ap (result_type w) (sym find_instance.2) ∙ shape_result k well.reached.1 (call_type_at w.shapes n) well.reached.3 in
      safe_then (safe_widened_kept at _ sees well.own shape.params given (subst (λ ps. Conform w ps well.own) (sym theirs) well.reached.4) (all_wide_of k c well.class c.target well.own (refl, inl well.is) well.takes) (kept_later w f sees shape.params given kept))
      (λ js vs i all. safe_bound_value at ty shape c well.class well.own vs shaped well.is (type_later w i c.self well.class well.self) well.takes
      (well.iters ∙ sym (agree_with shape.iter (is_iter w r) (first_of (agree shape.iter (is_iter w r)) _ alike)))
      (subst (λ o. result_conforms w o (target_result w well.class c.target) ≡ true) (sym result) well.reached.5) all))
  safe_bound at called.Bound g r sees ty shape v given able e are shaped alike is kept = absurd (true≢false (sym able))

-- what a call of an expression resolves to, with its arguments
pub record CallTyped (w : Rows) (f : Env) (at : TypingContext) (of : TypedCallee) (o : Option ExprType) (list : Args) (iter : Bool) (g : ExprType) : Type 0 where
  pub on : ExprType
  pub on_is : o ≡ Some on
  pub reach : ResolvedCallee
  pub reach_is : reached w of on ≡ Some reach
  pub iters : is_iter w reach ≡ iter
  pub params : List ParamType
  pub are : ParamsAre w reach params
  pub fit : ArgsAre f at params list
  pub gives : result_of (result_type w reach) ≡ g

module _ {w : Rows} {p : Program} (k : ProgramFacts w p) (go : Continuation → Eval Completion) (safely : IsSafe w go) (class : ℕ) (vars : List ℕ) (sites : List Site) (iter : Bool) (gives : Option ℕ) (number : Option ℕ) (bound_at : ℕ → Option ℕ) where
  abbrev frame : Env
  frame = record { rows = w; class = class; vars = vars; sites = sites; iter = iter; gives = gives }

  abbrev local : CodeEnv
  local = record { frame = frame; number = number; bound_at = bound_at }

  abbrev spot : TypingContext → Point
  spot at = record { local = local; place = at }

  call_typed : (at : TypingContext) (of : TypedCallee) (o : Option ExprType) (list : Args) (i : Bool) (g : ExprType) → option_and_then (λ a. option_and_then (λ r. result_if w r (args_fit frame at r 0 list)) (callee_of_call w of a i)) o ≡ Some g → CallTyped w frame at of o list i g
  call_typed at of o list i g e =
      let one = some_then _ o g e in
      let two = some_then _ (callee_of_call w of one.0 i) g one.2 in
      let three = some_then (λ r. if agree (is_iter w r) i then Some r else None) (reached w of one.0) two.0 two.1 in
      let same = is_if k (agree (is_iter w three.0) i) three.0 two.0 three.2 in
      let reach_is : reached w of one.0 ≡ Some two.0 = three.1 ∙ ap (λ r. Some r) same.1 in
      let fits = is_if k (args_fit frame at two.0 0 list) (result_of (result_type w two.0)) g two.2 in
      let many = args_many frame at two.0 0 list fits.0 in
      let taken = params_of k two.0 many.0 many.1 in
      record {
        on = one.0;
        on_is = one.1;
        reach = two.0;
        reach_is = reach_is;
        iters = subst (λ (r : ResolvedCallee). is_iter w r ≡ i) same.1 (agree_on w (is_iter w three.0) i same.0);
        params = taken.0;
        are = taken.1;
        fit = args_are frame at two.0 0 taken.0 list fits.0 (λ j. subst (λ m. parameter w two.0 m ≡ slice_get taken.0 j) (omega arith) (taken.1.each j)) (taken.1.arity ∙ ap (λ m. Some m) (omega arith));
        gives = fits.1;
      }

  safe_wide : {base : List ObjectType} {y : Point} (at : Pos) (n ty : ℕ) (v : Value) → is_immutable w ty ≡ true → HasType w base v ty → Safe w base y Value (λ ks u. GivenIs w ks (BoxedOf ty) u) (box_value at n v)
  safe_wide at n ty v i h = safe_before (safe_charge k.well at _) (λ ks e. safe_pure (Boxed v) (λ js f. (v, refl, type_later w (extends_trans e f) v ty h, i)))

  safe_raw : {base : List ObjectType} {y : Point} (at : Pos) (ty : ℕ) (v : Value) → is_immutable w ty ≡ true → HasType w base v ty → Safe w base y Value (λ ks u. GivenIs w ks (BoxedOf ty) u) (boxed p at v)
  safe_raw at ty (Int z) i h = safe_wide at 1 ty (Int z) i h
  safe_raw at ty (Truth b) i h = safe_wide at 1 ty (Truth b) i h
  safe_raw at ty (Char byte) i h = safe_wide at 1 ty (Char byte) i h
  safe_raw at ty (Imm own inside) i h = safe_wide at _ ty (Imm own inside) i h
  safe_raw {base} at ty Void i h = absurd (true≢false (sym (raw_is k base ty i Void h)))
  safe_raw {base} at ty (Text bytes) i h = absurd (true≢false (sym (raw_is k base ty i (Text bytes) h)))
  safe_raw {base} at ty (Ref number) i h = absurd (true≢false (sym (raw_is k base ty i (Ref number) h)))
  safe_raw {base} at ty (Bound number) i h = absurd (true≢false (sym (raw_is k base ty i (Bound number) h)))
  safe_raw {base} at ty (Boxed u) i h = absurd (true≢false (sym (raw_is k base ty i (Boxed u) h)))

  iter_sites : (x : TypingContext) (site : ℕ) (on : Expr) (list : Args) → Each (λ (st : ℕ × ℕ). bound_at st.0 ≡ Some st.1) (with_type site (calls_bound frame site) (type_of_expr frame x on) ++ (expr_sites frame x on ++ args_sites frame x list)) → Each (λ (st : ℕ × ℕ). bound_at st.0 ≡ Some st.1) (expr_sites frame x on) × Each (λ (st : ℕ × ℕ). bound_at st.0 ≡ Some st.1) (args_sites frame x list)
  iter_sites x site on list s =
      each_split (λ (st : ℕ × ℕ). bound_at st.0 ≡ Some st.1) (expr_sites frame x on) (args_sites frame x list)
      (each_split (λ (st : ℕ × ℕ). bound_at st.0 ≡ Some st.1) (with_type site (calls_bound frame site) (type_of_expr frame x on)) (expr_sites frame x on ++ args_sites frame x list) s).1

  safe_widened_from : {base : List ObjectType} {y : Point} (at : Pos) (ty : ℕ) (v : Value) → is_immutable w ty ≡ true → HasType w base v ty → Safe w base y Value (λ ks u. GivenIs w ks (BoxedOf ty) u) (boxed_from p at ty v)
  safe_widened_from {base} at ty v i h = safe_if (is_unboxed ty v) (λ t. safe_raw at ty v i h) (λ t. absurd (true≢false (sym (raw_is k base ty i v h) ∙ t)))

  -- ---- iter calls, binds and operators, whose subexpressions are safe

  module _ (isl : IsLocal w local) where
    -- ---- iter calls

    from_local : (site : ℕ) (sc : Site) → slice_get sites site ≡ Some sc → IsLocal w local → (n : ℕ) × (f : TypedFeature) × (slice_get w.features n ≡ Some f) × (number ≡ Some n) × (f.sites ≡ sites)
    from_local site sc e (inl l) = (l.0, l.1, l.2, ap (λ (i : CodeEnv). i.number) l.3, ap (λ (i : CodeEnv). i.frame.sites) (sym l.3))
    from_local site sc e (inr l) = absurd (none-some sc (ap (λ list. slice_get list site) (ap (λ (i : CodeEnv). i.frame.sites) (sym l.1)) ∙ e))

    safe_this_site : {base : List ObjectType} (x : TypingContext) (at : Pos) (site : ℕ) (sc : Site) → slice_get sites site ≡ Some sc → Safe w base (spot x) Site (λ ks s. s ≡ sc) (this_site p go site at)
    safe_this_site {base} x at site sc e =
        let l = from_local site sc e isl in
        safe_then {P = λ ks m. m ≡ l.0} (safe_looking _ (λ st f it. safe_some l.0 (it.here.feature ∙ l.3) (λ ks i. refl)))
        (λ ks m f i. subst (λ q. Safe w ks (spot x) Site (λ js s. s ≡ sc) (at_index p.features q >>= (λ g. at_index g.sites site))) (sym i)
        (safe_with _ (feature_of l.1) (k.feature_at l.0 l.1 l.2) (safe_some sc (ap (λ list. slice_get list site) l.4 ∙ e) (λ js j. refl))))

    safe_station : {base : List ObjectType} (x : TypingContext) (at : Pos) (site : ℕ) (sc : Site) → slice_get sites site ≡ Some sc → may_leave x ≡ true → Safe w base (spot x) CallSite (λ ks here. CallSiteWell k go safely ks (spot x) here × (here.site ≡ site)) (call_site p go site at)
    safe_station x at site sc e leaves =
        let l = from_local site sc e isl in
        safe_looking _ (λ st f it. safe_with _ l.0 (it.here.feature ∙ l.3)
        (safe_pure _ (λ ks i. (record { caller = activation_later w i it.here; leaves = leaves; local = isl }, refl))))

    -- the bound type that is known at a site is that of the receiver
    same_bound : (of : TypedCallee) (ks : List ObjectType) (a b : Option ℕ) (m : ℕ) (t : Target) (own : List ParamType) (through : Option ℕ) → (is_bound_call of ≡ true → b ≡ a) → IsCallee w ks of a m t own through → IsCallee w ks of b m t own through
    same_bound (called.Static u n) ks a b m t own through e h = h
    same_bound (called.Dispatch n) ks a b m t own through e h = h
    same_bound called.Bound ks a b m t own through e h = (h.0, h.1, h.2, h.3, h.4, h.5, h.6, λ upper f. h.7 upper (sym (e refl) ∙ f))

    known_there : (site : ℕ) (b : Bool) (o : Option ExprType) (g : ExprType) (r : ResolvedCallee) (of : TypedCallee) → Each (λ (st : ℕ × ℕ). bound_at st.0 ≡ Some st.1) (with_type site b o) → o ≡ Some g → b ≡ true → is_bound_call of ≡ true → reached w of g ≡ Some r → bound_at site ≡ bound_of r
    known_there site b o g r (called.Static u n) s e t bound h = absurd (true≢false (sym bound))
    known_there site b o g r (called.Dispatch n) s e t bound h = absurd (true≢false (sym bound))
    known_there site b o g r called.Bound s e t bound h =
        let find_instance = bound_reached k g r h in
        let at_site : Each (λ (st : ℕ × ℕ). bound_at st.0 ≡ Some st.1) ((site, find_instance.0) ∷ []) =
        subst (λ (i : ExprType). Each (λ (st : ℕ × ℕ). bound_at st.0 ≡ Some st.1) (with_type site true (Some i))) find_instance.1
        (subst (λ c. Each (λ (st : ℕ × ℕ). bound_at st.0 ≡ Some st.1) (with_type site c (Some g))) t
        (subst (λ q. Each (λ (st : ℕ × ℕ). bound_at st.0 ≡ Some st.1) (with_type site b q)) e s)) in
        at_site.0 ∙ ap bound_of find_instance.2

    iter_feature : (t : Target) → is_target_iter w t ≡ true → (j : ℕ) × (f : TypedFeature) × (t ≡ target.Feature j) × (slice_get w.features j ≡ Some f) × (f.iter ≡ true)
    iter_feature (target.Feature j) e = let find_instance = facts.some_that (λ (f : TypedFeature). f.iter) (slice_get w.features j) e in (j, find_instance.0, refl, find_instance.1, find_instance.2)
    iter_feature (target.Builtin b) e = absurd (true≢false (sym e))
    iter_feature (target.Get a) e = absurd (true≢false (sym e))
    iter_feature (target.Set a) e = absurd (true≢false (sym e))
    iter_feature (target.GetShared n) e = absurd (true≢false (sym e))
    iter_feature (target.SetShared n) e = absurd (true≢false (sym e))

    -- what is at a site: what it calls, and what is known of the bound value
    record SiteWell (x : TypingContext) (site : ℕ) (on : Option ExprType) (list : Args) (g : ExprType) : Type 0 where
      sc : Site
      there : slice_get sites site ≡ Some sc
      leaves : may_leave x ≡ true
      typed : CallTyped w frame x sc.called on list true g
      bound : is_bound_call sc.called ≡ true → bound_at site ≡ bound_of typed.reach

    safe_start : {base : List ObjectType} (x : TypingContext) (site : ℕ) (on : Option ExprType) (list : Args) (g : ExprType) (is : SiteWell x site on list g) (at : Pos) (here : CallSite) (c : ResolvedCall) (h : PassedArgs) (seen : Option ℕ) → CallSiteWell k go safely base (spot x) here → here.site ≡ site → (well : CalleeWell w base is.sc.called (bound_of is.typed.reach) true c) → PassedArgsWell w base vars false well.class c.target well.own seen h → Safe w base (spot x) Value (λ ks v. HasTypeIf w ks seen v) (start p go here c h)
    safe_start {base} x site on list g is at here c h seen occurs sited well hands =
        let find_instance = iter_feature c.target well.iters in
        let takes : Takes w well.class (target.Feature find_instance.0) well.own = subst (λ t. Takes w well.class t well.own) find_instance.2 well.takes in
        let same : find_instance.1.class ≡ well.class = class_is w well.class find_instance.0 find_instance.1 well.own find_instance.3 takes in
        let reached_so = same_bound is.sc.called base (bound_of is.typed.reach) (bound_at here.site) well.class c.target well.own c.through (λ b. ap bound_at sited ∙ is.bound b) well.reached in
        subst (λ t. Safe w base (spot x) Value (λ ks v. HasTypeIf w ks seen v) (start_of p go here t c h)) (sym find_instance.2)
        (safe_with _ (feature_of find_instance.1) (k.feature_at find_instance.0 find_instance.1 find_instance.3)
        (safe_if find_instance.1.iter
        (λ t. safe_turn (safe_begun k go safely here find_instance.0 find_instance.1 c well.own seen h is.sc occurs find_instance.3 find_instance.4
        (subst (HasType w base c.self) (sym same) well.self) (ap (slice_get sites) sited ∙ is.there)
        (subst (λ m. Takes w m (target.Feature find_instance.0) well.own) (sym same) takes)
        (subst (λ m. IsCallee w base is.sc.called (bound_at here.site) m (target.Feature find_instance.0) well.own c.through) (sym same) (subst (λ u. IsCallee w base is.sc.called (bound_at here.site) well.class u well.own c.through) find_instance.2 reached_so))
        (subst (λ m. PassedArgsWell w base vars false m (target.Feature find_instance.0) well.own seen h) (sym same) (subst (λ u. PassedArgsWell w base vars false well.class u well.own seen h) find_instance.2 hands))))
        (λ t. absurd (true≢false (sym find_instance.4 ∙ t)))))

    leaves_of : (o : Option ℕ) (b : Bool) (n : ℕ) → option_map_or (λ owner. owner == n && not b) o false ≡ true → (is_some o && not b) ≡ true
    leaves_of None b n e = absurd (true≢false (sym e))
    leaves_of (Some owner) b n e = second_of (owner == n) (not b) e

    site_well : (x : TypingContext) (site : ℕ) (on : Expr) (list : Args) (g : ExprType) (sc : Site) → slice_get sites site ≡ Some sc → may_leave x ≡ true → CallTyped w frame x sc.called (type_of_expr frame x on) list true g → Each (λ (st : ℕ × ℕ). bound_at st.0 ≡ Some st.1) (with_type site (calls_bound frame site) (type_of_expr frame x on)) → SiteWell x site (type_of_expr frame x on) list g
    site_well x site on list g sc e leaves typed s = record {
      sc = sc;
      there = e;
      leaves = leaves;
      typed = typed;
      bound = λ b. known_there site (calls_bound frame site) (type_of_expr frame x on) typed.on typed.reach sc.called s typed.on_is (ap (λ o. option_map_or (λ (i : Site). is_bound_call i.called) o false) e ∙ b) b typed.reach_is;
    }

    -- an instance at the site goes on
    safe_goes_on : {base : List ObjectType} (x : TypingContext) (at : Pos) (site : ℕ) (on : Option ExprType) (list : Args) (g : ExprType) (is : SiteWell x site on list g) → (o : Option (Instance × SiteInstances)) → FoundWell w base local site o → (self : Eval Value) (once others : Eval (List (Option Value))) → ((ks : List ObjectType) → Safe w ks (spot x) Value (λ js v. GivenIs w js is.typed.on v) self) → ((ks : List ObjectType) → Safe w ks (spot x) (List (Option Value)) (λ js vs. PartWell w js is_once is.typed.params vs) once) → ((ks : List ObjectType) → Safe w ks (spot x) (List (Option Value)) (λ js vs. PartWell w js not_once is.typed.params vs) others) → Safe w base (spot x) Value (λ ks v. GivenIs w ks g v) (iter_call p go site at self once others (variables_of list) o)
    safe_goes_on {base} x at site on list g is None stood self once others me first second =
        let backs = backs_of frame x is.typed.params list is.typed.fit in
        safe_then (me base) (λ ks v f h. safe_then (first ks) (λ js vs i a. safe_then (second js) (λ hs us j b.
        safe_then (safe_this_site x at site is.sc is.there)
        (λ ls s l same. subst (λ sc. Safe w ls (spot x) Value (λ ns u. GivenIs w ns g u) (callee p at sc.called v >>= (λ c. pass_args p at sc.called c (either vs us) (variables_of list) >>= (λ hd. call_site p go site at >>= (λ here. start p go here c hd))))) (sym same)
        (safe_then (safe_callee k at is.sc.called is.typed.on is.typed.reach v is.typed.reach_is (given_later_is k (extends_trans i (extends_trans j l)) is.typed.on v h) (λ none. none-some (length is.typed.params) (sym none ∙ is.typed.are.arity)))
        (λ ms c m well0.
        let well = callee_as k is.sc.called (bound_of is.typed.reach) (is_iter w is.typed.reach) true c is.typed.iters well0 in
        let given = both_given w ms is.typed.params vs us (parts_later w (extends_trans j (extends_trans l m)) is_once is.typed.params vs a) (parts_later w (extends_trans l m) not_once is.typed.params us b) in
        let sees = sees_of k ms vars false is.sc.called is.typed.on is.typed.reach c well.class c.target well.own is.typed.params (either vs us) (variables_of list) is.typed.reach_is is.typed.are well.takes well.reached given backs in
        safe_then (safe_handed k at false is.sc.called (bound_of is.typed.reach) c well.class c.target well.own sees.params sees.result (either vs us) (variables_of list) (refl, inl well.is) well.takes well.reached sees.sees sees.given sees.back)
        (λ os hd n hands. safe_then (safe_station x at site is.sc is.there is.leaves)
        (λ ps here q occurs. safe_that (safe_start x site on list g is at here c hd sees.result occurs.0 occurs.1 (callee_later k is.sc.called (bound_of is.typed.reach) true c (extends_trans n q) well) (hands_later k q hands))
        (λ qs u r t. given_is w qs (result_of (result_type w is.typed.reach)) g u is.typed.gives (result_is w qs (result_type w is.typed.reach) u (sees.gives qs u t)))))))))))
    safe_goes_on {base} x at site on list g is (Some e) stood self once others me first second =
        let backs = backs_of frame x is.typed.params list is.typed.fit in
        let f = stood.0 in
        let inst = stood.1 in
        let c : ResolvedCall = record { target = target.Feature e.0.feature; class = None; self = e.0.self; through = e.0.through } in
        let same_site : inst.called ≡ is.sc = same_Some inst.called is.sc (sym inst.at ∙ is.there) in
        safe_then (second base) (λ ks us i b. safe_then (safe_this_site x at site is.sc is.there)
        (λ js s l same. subst (λ sc. Safe w js (spot x) Value (λ ns u. GivenIs w ns g u) (pass_args p at sc.called c us (variables_of list) >>= (λ hd. call_site p go site at >>= (λ here. resume p go here e.0 e.1 hd)))) (sym same)
        (let later = extends_trans i l in
        let reached_so = same_bound is.sc.called js (bound_at site) (bound_of is.typed.reach) f.class (target.Feature e.0.feature) inst.own e.0.through (λ t. sym (is.bound t))
        (reached_later w later is.sc.called (bound_at site) f.class (target.Feature e.0.feature) inst.own e.0.through (subst (λ (sc : Site). IsCallee w base sc.called (bound_at site) f.class (target.Feature e.0.feature) inst.own e.0.through) same_site inst.reached)) in
        let given = rest_given w js is.typed.params us (parts_later w l not_once is.typed.params us b) in
        let sees = sees_of k js vars true is.sc.called is.typed.on is.typed.reach c f.class (target.Feature e.0.feature) inst.own is.typed.params us (variables_of list) is.typed.reach_is is.typed.are inst.takes reached_so given backs in
        safe_then (safe_handed k at true is.sc.called (bound_of is.typed.reach) c f.class (target.Feature e.0.feature) inst.own sees.params sees.result us (variables_of list) (refl, inr (e.0.feature, refl)) inst.takes reached_so sees.sees sees.given sees.back)
        (λ os hd n hands. safe_then (safe_station x at site is.sc is.there is.leaves)
        (λ ps here q occurs.
        let all = extends_trans later (extends_trans n q) in
        safe_that (safe_resume k go safely here e.0 f e.1 sees.result hd occurs.0
        (instance_at w ps local occurs.1 (instance_later w all inst)) (sites_later w all (local_of w e.0.feature f) e.1 stood.2)
        (hands_later k q hands))
        (λ qs u r t. given_is w qs (result_of (result_type w is.typed.reach)) g u is.typed.gives (result_is w qs (result_type w is.typed.reach) u (sees.gives qs u t))))))))

    safe_iter_call : {base : List ObjectType} (x : TypingContext) (at : Pos) (site : ℕ) (on : Expr) (list : Args) (g : ExprType) → type_of_expr frame x (IterCall site on list at) ≡ Some g → AreBoundTypes w local (expr_sites frame x (IterCall site on list at)) → ((a : ExprType) → type_of_expr frame x on ≡ Some a → (ks : List ObjectType) → Safe w ks (spot x) Value (λ js v. GivenIs w js a v) (evaluate p go on)) → ((test : Mode → Bool) (params : List ParamType) → ArgsAre frame x params list → (ks : List ObjectType) → Safe w ks (spot x) (List (Option Value)) (λ js vs. PartWell w js test params vs) (evaluate_args p go test list)) → Safe w base (spot x) Value (λ ks v. GivenIs w ks g v) (evaluate p go (IterCall site on list at))
    safe_iter_call {base} x at site on list g e known self args =
        let one = some_then _ (site_called frame x site) g e in
        let two = some_then (called_in x) (slice_get sites site) one.0 one.1 in
        let inner = is_if k (is_in_loop two.0.owner x) two.0.called one.0 two.2 in
        let sited = site_well x site on list g two.0 two.1 (leaves_of x.owner x.guarded two.0.owner inner.0)
        (call_typed x two.0.called (type_of_expr frame x on) list true g (subst (λ c. option_and_then (λ a. option_and_then (λ r. result_if w r (args_fit frame x r 0 list)) (callee_of_call w c a true)) (type_of_expr frame x on) ≡ Some g) (sym inner.1) one.2))
        (each_split (λ (st : ℕ × ℕ). bound_at st.0 ≡ Some st.1) (with_type site (calls_bound frame site) (type_of_expr frame x on)) (expr_sites frame x on ++ args_sites frame x list) known).0 in
        safe_looking _ (λ st f it.
        safe_goes_on x at site (type_of_expr frame x on) list g sited (find_instance site st.here.sites) (found_well w (heap_typing st) local site st.here.sites it.here.sites) (evaluate p go on) (evaluate_args p go is_once list) (evaluate_args p go not_once list)
        (λ ks. self sited.typed.on sited.typed.on_is ks) (λ ks. args is_once sited.typed.params sited.typed.fit ks) (λ ks. args not_once sited.typed.params sited.typed.fit ks))

    -- ---- binds

    just_of : (n : ℕ) (o : Option ℕ) → is_just n o ≡ true → o ≡ Some n
    just_of n None e = absurd (true≢false (sym e))
    just_of n (Some m) e = ap (λ i. Some i) (eqb-true m n e)

    none_alike : (o : Option ParamType) → is_open_alike o None ≡ false
    none_alike None = refl
    none_alike (Some q) = refl

    none_kept : (x : TypingContext) (a b : Option ParamType) (e : Arg) → a ≡ None → bound_arg_fits frame x a b e ≡ true → ⊥
    none_kept x a b (tree.Value d v) n h = true≢false (sym (subst (λ i. value_fits w i d (type_of_expr frame x v) ≡ true) n h))
    none_kept x a b (Variable d var) n h = true≢false (sym h)
    none_kept x a b Open n h = true≢false (sym (subst (λ i. is_open_alike i b ≡ true) n h))

    kept_many : (x : TypingContext) (r to : ResolvedCallee) (place next : ℕ) (list : Args) → bound_args_fit frame x r to place next list ≡ true → (n : ℕ) × (arity w r ≡ Some n)
    kept_many x r to place next no_args e = (place, just_of place (arity w r) (first_of (is_just place (arity w r)) (is_just next (arity w to)) e))
    kept_many x r to place next (arg a more) e = kept_many x r to (place + 1) _ more (second_of (bound_arg_fits frame x (parameter w r place) (parameter w to next) a) _ e)

    kept_are : (x : TypingContext) (r to : ResolvedCallee) (place next : ℕ) (own params : List ParamType) (list : Args) → bound_args_fit frame x r to place next list ≡ true → ((j : ℕ) → parameter w r (place + j) ≡ slice_get own j) → arity w r ≡ Some (place + length own) → ((j : ℕ) → parameter w to (next + j) ≡ slice_get params j) → arity w to ≡ Some (next + length params) → KeptAre frame x own params list
    kept_are x r to place next [] [] no_args e h n g m = tt
    kept_are x r to place next [] params (arg a more) e h n g m =
        absurd (none_kept x (parameter w r place) (parameter w to next) a (subst (λ i. parameter w r i ≡ None) (omega arith) (h 0)) (first_of (bound_arg_fits frame x (parameter w r place) (parameter w to next) a) _ e))
    kept_are x r to place next [] (q ∷ params) no_args e h n g m =
        absurd (omega (arith, same_Some _ _ (sym (just_of next (arity w to) (second_of (is_just place (arity w r)) (is_just next (arity w to)) e)) ∙ m)))
    kept_are x r to place next (o ∷ own) params no_args e h n g m =
        absurd (omega (arith, same_Some _ _ (sym (just_of place (arity w r) (first_of (is_just place (arity w r)) (is_just next (arity w to)) e)) ∙ n)))
    kept_are x r to place next (o ∷ own) params (arg (tree.Value d v) more) e h n g m =
        let here : parameter w r place ≡ Some o = subst (λ i. parameter w r i ≡ Some o) (omega arith) (h 0) in (
          subst (λ i. value_fits w i d (type_of_expr frame x v) ≡ true) here (first_of (value_fits w (parameter w r place) d (type_of_expr frame x v)) _ e),
          kept_are x r to (place + 1) next own params more (second_of (value_fits w (parameter w r place) d (type_of_expr frame x v)) _ e)
              (λ j. subst (λ i. parameter w r i ≡ slice_get own j) (omega arith) (h (suc j))) (n ∙ ap (λ i. Some i) (omega arith)) g m,
        )
    kept_are x r to place next (o ∷ own) params (arg (Variable d var) more) e h n g m = absurd (true≢false (sym e))
    kept_are x r to place next (o ∷ own) [] (arg Open more) e h n g m =
        let there : parameter w to next ≡ None = subst (λ i. parameter w to i ≡ None) (omega arith) (g 0) in
        let left : is_open_alike (parameter w r place) (parameter w to next) ≡ true = first_of (is_open_alike (parameter w r place) (parameter w to next)) _ e in
        let none : is_open_alike (parameter w r place) None ≡ true = subst (λ i. is_open_alike (parameter w r place) i ≡ true) there left in
        absurd (true≢false (sym none ∙ none_alike (parameter w r place)))
    kept_are x r to place next (o ∷ own) (q ∷ params) (arg Open more) e h n g m =
        let here : parameter w r place ≡ Some o = subst (λ i. parameter w r i ≡ Some o) (omega arith) (h 0) in
        let there : parameter w to next ≡ Some q = subst (λ i. parameter w to i ≡ Some q) (omega arith) (g 0) in (
          subst (λ i. is_open_alike (Some o) i ≡ true) there (subst (λ i. is_open_alike i (parameter w to next) ≡ true) here (first_of (is_open_alike (parameter w r place) (parameter w to next)) _ e)),
          kept_are x r to (place + 1) (next + 1) own params more (second_of (is_open_alike (parameter w r place) (parameter w to next)) _ e)
              (λ j. subst (λ i. parameter w r i ≡ slice_get own j) (omega arith) (h (suc j))) (n ∙ ap (λ i. Some i) (omega arith))
              (λ j. subst (λ i. parameter w to i ≡ slice_get params j) (omega arith) (g (suc j))) (m ∙ ap (λ i. Some i) (omega arith)),
        )

    safe_bind : {base : List ObjectType} (x : TypingContext) (at : Pos) (of : TypedCallee) (on : Expr) (list : Args) (ty : ℕ) (g : ExprType) → type_of_expr frame x (Bind of on list ty at) ≡ Some g → ((a : ExprType) → type_of_expr frame x on ≡ Some a → (ks : List ObjectType) → Safe w ks (spot x) Value (λ js v. GivenIs w js a v) (evaluate p go on)) → ((own next : List ParamType) → KeptAre frame x own next list → (ks : List ObjectType) → Safe w ks (spot x) (List (Option Value)) (λ js vs. KeptWell w js own next vs) (evaluate_args p go every list)) → Safe w base (spot x) Value (λ ks v. GivenIs w ks g v) (evaluate p go (Bind of on list ty at))
    safe_bind {base} x at of on list ty g e self args =
        let one = some_then _ (type_of_expr frame x on) g e in
        let two = some_then _ (callee_of_bind w of one.0 ty) g one.2 in
        let fits = plain_given w ty (bound_args_fit frame x two.0 (reach.Bound ty) 0 0 list) g two.2 in
        let three = some_then (λ r. if is_bindable of && has_bound_type w ty r then Some r else None) (reached w of one.0) two.0 two.1 in
        let same = is_if k (is_bindable of && has_bound_type w ty three.0) three.0 two.0 three.2 in
        let tests = subst (λ r. (is_bindable of && has_bound_type w ty r) ≡ true) same.1 same.0 in
        let reach_is : reached w of one.0 ≡ Some two.0 = three.1 ∙ ap (λ r. Some r) same.1 in
        let shaped = facts.some_that (λ shape. is_bound_alike w shape two.0) (call_type_at w.bound ty) (second_of (is_bindable of) (has_bound_type w ty two.0) tests) in
        let many = kept_many x two.0 (reach.Bound ty) 0 0 list fits.0 in
        let taken = params_of k two.0 many.0 many.1 in
        let kept = kept_are x two.0 (reach.Bound ty) 0 0 taken.0 shaped.0.params list fits.0
        (λ j. subst (λ i. parameter w two.0 i ≡ slice_get taken.0 j) (omega arith) (taken.1.each j)) (taken.1.arity ∙ ap (λ i. Some i) (omega arith))
        (λ j. subst (λ i. parameter w (reach.Bound ty) i ≡ slice_get shaped.0.params j) (omega arith) (ap (option_and_then (λ (i : CallType). slice_get i.params j)) shaped.1))
        (ap (option_map (λ (i : CallType). length i.params)) shaped.1 ∙ ap (λ i. Some i) (omega arith)) in
        safe_then (self one.0 one.1 base)
        (λ ks v f h. safe_then (args taken.0 shaped.0.params kept ks)
        (λ js vs i are. safe_that (safe_bound k at of one.0 two.0 taken.0 ty shaped.0 v vs (first_of (is_bindable of) (has_bound_type w ty two.0) tests) reach_is taken.1 shaped.1 shaped.2 (given_later_is k i one.0 v h) are)
        (λ hs u j t. given_is w hs (Of ty) g u fits.1 t)))

    -- ---- operators that are called on their second operand

    swapped_plain : (t : Target) (a b g : ExprType) → type_of_reversed w t a b ≡ Some g → (class : ℕ) × (b ≡ Of class)
    swapped_plain t a NoValue g e = absurd (none-some g e)
    swapped_plain t a (Of class) g e = (class, refl)
    swapped_plain t a (BoxedOf own) g e = absurd (none-some g e)

    just_one : (o : Option ℕ) → is_just 1 o ≡ true → o ≡ Some 1
    just_one None e = absurd (true≢false (sym e))
    just_one (Some n) e = ap (λ m. Some m) (eqb-true n 1 e)

    just_type : (o : Option ℕ) → is_just bool_type o ≡ true → o ≡ Some bool_type
    just_type None e = absurd (true≢false (sym e))
    just_type (Some n) e = ap (λ m. Some m) (eqb-true n bool_type e)

    first_given : (ks : List ObjectType) (own : List ParamType) (q : Option ParamType) (a : ExprType) (v : Value) → q ≡ slice_get own 0 → takes_first w q a ≡ true → 1 ≡ length own → GivenIs w ks a v → GivenWell w ks false own (Some v ∷ [])
    first_given ks [] q a v e t n h = absurd (omega (arith, n))
    first_given ks (o ∷ r ∷ own) q a v e t n h = absurd (omega (arith, n))
    first_given ks (o ∷ []) q a v e t n h =
        let takes : takes_value w o o.mode a ≡ true = subst (λ i. takes_first w i a ≡ true) e t in
        let rest = second_of (same_mode o.mode o.mode) _ takes in
        (given_arg w (λ u. HasType w ks u o.ty) false o.mode v (first_of (is_value_mode o.mode) _ rest) (given_goes k ks a o.ty v (second_of (is_value_mode o.mode) _ rest) h), tt)

    -- an immutable class has no array part
    no_array : has_array w bool_type ≡ true → ⊥
    no_array e =
        let t = facts.some_that (λ (i : TypeDef). i.array) (slice_get w.types bool_type) e in
        let laid = first_of (has_layout w t.0) _ (second_of (fits_kind w bool_type t.0) _ (facts.type_at k.well bool_type t.0 t.1)) in
        let kinds = second_of (length t.0.attrs == 0 || not (is_abstract_kind t.0.kind)) _ (second_of (is_type_or_none w t.0.elem) _ (second_of (are_types w t.0.attrs) _ (second_of (t.0.slots == length t.0.attrs) _ laid))) in
        elim (one_of (not t.0.array) (is_reference_kind t.0.kind) kinds) as (λ x. ⊥) [
          | inl c ↦ true≢false (sym t.2 ∙ not_true t.0.array c)
          | inr c ↦ true≢false (sym (ap (λ o. option_map_or (λ (i : TypeDef). is_immutable_kind i.kind) o false) (sym t.1) ∙ k.bool_immutable) ∙ not_fixed t.0.kind c)
        ]

    -- where BOOL is given it makes no difference whether the class is known
    unclassed : {base : List ObjectType} {y : Point} {P : List ObjectType → Value × List Value → Type 0} (class : ℕ) (t : Target) (own : List ParamType) (self v : Value) (at : Pos) → Takes w class t own → target_result w class t ≡ Some bool_type → Safe w base y (Value × List Value) P (calls.reached p go at t (Some class) self (Some v ∷ [])) → Safe w base y (Value × List Value) P (calls.reached p go at t None self (Some v ∷ []))
    unclassed class (target.Feature n) own self v at takes e h = h
    unclassed class (target.Get a) own self v at takes e h = h
    unclassed class (target.Set a) own self v at takes e h = h
    unclassed class (target.GetShared n) own self v at takes e h = h
    unclassed class (target.SetShared n) own self v at takes e h = h
    unclassed class (target.Builtin ArrayCreate) own self v at takes e h =
        absurd (no_array (subst (λ n. has_array w n ≡ true) (same_Some class bool_type e) (count_of 1 (has_array w class) (length own) takes.arity).0))
    unclassed class (target.Builtin _) own self v at takes e h = h

    safe_swapped : {base : List ObjectType} (x : TypingContext) (at : Pos) (t : Target) (first second : Expr) (g : ExprType) → type_of_expr frame x (Reversed t first second at) ≡ Some g → ((a : ExprType) → type_of_expr frame x first ≡ Some a → (ks : List ObjectType) → Safe w ks (spot x) Value (λ js v. GivenIs w js a v) (evaluate p go first)) → ((a : ExprType) → type_of_expr frame x second ≡ Some a → (ks : List ObjectType) → Safe w ks (spot x) Value (λ js v. GivenIs w js a v) (evaluate p go second)) → Safe w base (spot x) Value (λ ks v. GivenIs w ks g v) (evaluate p go (Reversed t first second at))
    safe_swapped {base} x at t first second g e a b =
        let one = some_then _ (type_of_expr frame x first) g e in
        let two = some_then (type_of_reversed w t one.0) (type_of_expr frame x second) g one.2 in
        let plain = swapped_plain t one.0 two.0 g two.2 in
        let test = plain_given w bool_type (is_comparison w plain.0 t one.0) g (subst (λ i. type_of_reversed w t one.0 i ≡ Some g) plain.1 two.2) in
        let routine = second_of (is_just 1 (target_arity w plain.0 t)) _ test.0 in
        let takes_it = second_of (not (is_target_iter w t)) _ routine in
        let taken = k.taken plain.0 t (ap is_some (just_one (target_arity w plain.0 t) (first_of (is_just 1 (target_arity w plain.0 t)) _ test.0))) in
        let gives_bool = just_type (target_result w plain.0 t) (second_of (takes_first w (target_parameter w plain.0 t 0) one.0) _ takes_it) in
        safe_then (a one.0 one.1 base) (λ ks v f h. safe_then (b two.0 two.1 ks)
        (λ js self i s.
        let me : HasType w js self plain.0 = given_is w js two.0 (Of plain.0) self plain.1 s in
        let given = first_given js taken.0 (target_parameter w plain.0 t 0) one.0 v (taken.1.each 0) (first_of (takes_first w (target_parameter w plain.0 t 0) one.0) _ takes_it) (same_Some 1 (length taken.0) (sym (just_one (target_arity w plain.0 t) (first_of (is_just 1 (target_arity w plain.0 t)) _ test.0)) ∙ taken.1.arity)) (given_later_is k i one.0 v h) in
        safe_then (unclassed plain.0 t taken.0 self v at taken.1 gives_bool (safe_reached k go safely at plain.0 t taken.0 self (Some v ∷ []) taken.1 (not_true (is_target_iter w t) (first_of (not (is_target_iter w t)) _ routine)) me given))
        (λ hs r j came. safe_pure r.0 (λ ls l. given_is w ls (Of bool_type) g r.0 test.1 (type_later w l r.0 bool_type (subst (λ o. HasTypeIf w hs o r.0) gives_bool came.0))))))

    -- ---- the value of a test

    safe_truth : {base : List ObjectType} (x : TypingContext) (a : ExprType) (v : Value) → is_plain bool_type a ≡ true → GivenIs w base a v → Safe w base (spot x) Bool Any (truth_of v)
    safe_truth {base} x a v e h =
        let form = truth_form k base v (given_is w base a (Of bool_type) v (plain_of w bool_type a e) h) in
        safe_some form.0 (ap as_truth form.1) (λ ks f. tt)

    -- ---- all expressions

    mutual
      pub safe_evaluate : (base : List ObjectType) (x : TypingContext) (e : Expr) (g : ExprType) → type_of_expr frame x e ≡ Some g → AreBoundTypes w local (expr_sites frame x e) → Safe w base (spot x) Value (λ ks v. GivenIs w ks g v) (evaluate p go e)
      safe_evaluate base x (tree.Int z) g e s = safe_pure (Int z) (λ ks f. given_is w ks (Of int_type) g (Int z) (same_Some _ g e) refl)
      safe_evaluate base x (tree.Truth b) g e s = safe_pure (Truth b) (λ ks f. given_is w ks (Of bool_type) g (Truth b) (same_Some _ g e) refl)
      safe_evaluate base x (tree.Char byte) g e s = safe_pure (Char byte) (λ ks f. given_is w ks (Of char_type) g (Char byte) (same_Some _ g e) refl)
      safe_evaluate base x (tree.Text bytes) g e s = safe_pure (Text bytes) (λ ks f. given_is w ks (Of str_type) g (Text bytes) (same_Some _ g e) (holds_itself k str_type))
      safe_evaluate base x (VoidValue ty) g e s =
          let test = plain_given w ty (is_type w ty) g e in
          safe_pure (void_of p ty) (λ ks f. given_is w ks (Of ty) g (void_of p ty) test.1 (k.void_is ks ty test.0))
      safe_evaluate base x SelfRef g e s = safe_look (λ st f it. given_is w (heap_typing st) (Of class) g st.here.self (same_Some _ g e) it.here.self)
      safe_evaluate base x (Var var) g e s =
          let find_instance = some_map (λ ty. Of ty) (slice_get vars var) g e in
          safe_that (safe_read k.well var find_instance.0 find_instance.1) (λ ks v f h. given_is w ks (Of find_instance.0) g v find_instance.2 h)
      safe_evaluate base x Exception g e s =
          let find_instance = some_map (λ ty. Of ty) x.branch g e in
          safe_looking _ (λ st f it. let there = there_is w (heap_typing st) find_instance.0 x.branch st.here.exception find_instance.1 it.here.exception in
          safe_some there.0 there.1 (λ ks i. given_is w ks (Of find_instance.0) g there.0 find_instance.2 (type_later w i there.0 find_instance.0 there.2)))
      safe_evaluate base x (IsVoid of) g e s =
          let one = some_then type_of_test (type_of_expr frame x of) g e in
          safe_then (safe_evaluate base x of one.0 one.1 s)
          (λ ks v f h. safe_pure (Truth (is_void v)) (λ js i. given_is w js (Of bool_type) g _ (plain_given w bool_type (is_value one.0) g one.2).1 refl))
      safe_evaluate base x (New ty at) g e s =
          let test = plain_given w ty (has_objects w ty && not (has_array w ty)) g e in
          safe_that (safe_new_object k at ty (first_of (has_objects w ty) _ test.0)) (λ ks v f h. given_is w ks (Of ty) g v test.1 h)
      safe_evaluate base x (NewArray ty size at) g e s =
          let one = some_then (type_of_array w ty) (type_of_expr frame x size) g e in
          let test = plain_given w ty (is_plain int_type one.0 && (has_objects w ty && has_array w ty)) g one.2 in
          let objects = first_of (has_objects w ty) _ (second_of (is_plain int_type one.0) _ test.0) in
          safe_then (safe_evaluate base x size one.0 one.1 s)
          (λ ks v f h. let form = int_form k ks v (given_is w ks one.0 (Of int_type) v (plain_of w int_type one.0 (first_of (is_plain int_type one.0) _ test.0)) h) in
          safe_with _ form.0 (ap as_int form.1) (safe_that (safe_new_array k at ty form.0 objects) (λ js u i t. given_is w js (Of ty) g u test.1 t)))
      safe_evaluate base x (Array ty elements at) g e s =
          let one = some_then (λ element. plain_if ty (are_assignable frame x element elements)) (elements_type w ty) g e in
          let test = plain_given w ty (are_assignable frame x one.0 elements) g one.2 in
          let laid = elements_is w (has_objects w ty && has_array w ty) (element_of w ty) one.0 one.1 in
          safe_then (safe_evaluate_all base x one.0 elements test.0 s)
          (λ ks vs f are. safe_that (safe_array_of k at ty vs (first_of (has_objects w ty) _ laid.0) (subst (λ o. Each (HasTypeIf w ks o) vs) (sym laid.1) are)) (λ js v i h. given_is w js (Of ty) g v test.1 h))
      safe_evaluate base x (Call of on list at) g e s =
          let sites = each_split (λ st. bound_at st.0 ≡ Some st.1) (expr_sites frame x on) (args_sites frame x list) s in
          let typed = call_typed x of (type_of_expr frame x on) list false g e in
          safe_then (safe_evaluate base x on typed.on typed.on_is sites.0)
          (λ ks v f h. safe_then (safe_evaluate_args ks x every typed.params list typed.fit sites.1)
          (λ js vs i are. safe_that
          (safe_call k go safely at of typed.on typed.reach typed.params v vs (variables_of list) isl typed.reach_is typed.iters typed.are (given_later_is k i typed.on v h) (all_given w js typed.params vs are) (backs_of frame x typed.params list typed.fit))
          (λ hs u j t. given_is w hs (result_of (result_type w typed.reach)) g u typed.gives (result_is w hs (result_type w typed.reach) u t))))
      safe_evaluate base x (IterCall site on list at) g e s =
          let sites = iter_sites x site on list s in
          safe_iter_call x at site on list g e s (λ a h ks. safe_evaluate ks x on a h sites.0) (λ test params fit ks. safe_evaluate_args ks x test params list fit sites.1)
      safe_evaluate base x (Bind of on list ty at) g e s =
          let sites = each_split (λ st. bound_at st.0 ≡ Some st.1) (expr_sites frame x on) (args_sites frame x list) s in
          safe_bind x at of on list ty g e (λ a h ks. safe_evaluate ks x on a h sites.0) (λ own next fit ks. safe_evaluate_kept ks x own next list fit sites.1)
      safe_evaluate base x (Reversed t first second at) g e s =
          let sites = each_split (λ st. bound_at st.0 ≡ Some st.1) (expr_sites frame x first) (expr_sites frame x second) s in
          safe_swapped x at t first second g e (λ a h ks. safe_evaluate ks x first a h sites.0) (λ a h ks. safe_evaluate ks x second a h sites.1)
      safe_evaluate base x (And first second) g e s =
          let sites = each_split (λ st. bound_at st.0 ≡ Some st.1) (expr_sites frame x first) (expr_sites frame x second) s in
          let one = some_then _ (type_of_expr frame x first) g e in
          let two = some_then _ (type_of_expr frame x second) g one.2 in
          let test = plain_given w bool_type (is_plain bool_type one.0 && is_plain bool_type two.0) g two.2 in
          safe_then (safe_then (safe_evaluate base x first one.0 one.1 sites.0) (λ ks v f h. safe_truth x one.0 v (first_of (is_plain bool_type one.0) _ test.0) h))
          (λ ks b f t. safe_if b
          (λ y. safe_that (safe_evaluate ks x second two.0 two.1 sites.1) (λ js v i h. given_is w js two.0 g v (plain_of w bool_type two.0 (second_of (is_plain bool_type one.0) _ test.0) ∙ test.1) h))
          (λ y. safe_pure (Truth false) (λ js i. given_is w js (Of bool_type) g (Truth false) test.1 refl)))
      safe_evaluate base x (Or first second) g e s =
          let sites = each_split (λ st. bound_at st.0 ≡ Some st.1) (expr_sites frame x first) (expr_sites frame x second) s in
          let one = some_then _ (type_of_expr frame x first) g e in
          let two = some_then _ (type_of_expr frame x second) g one.2 in
          let test = plain_given w bool_type (is_plain bool_type one.0 && is_plain bool_type two.0) g two.2 in
          safe_then (safe_then (safe_evaluate base x first one.0 one.1 sites.0) (λ ks v f h. safe_truth x one.0 v (first_of (is_plain bool_type one.0) _ test.0) h))
          (λ ks b f t. safe_if b
          (λ y. safe_pure (Truth true) (λ js i. given_is w js (Of bool_type) g (Truth true) test.1 refl))
          (λ y. safe_that (safe_evaluate ks x second two.0 two.1 sites.1) (λ js v i h. given_is w js two.0 g v (plain_of w bool_type two.0 (second_of (is_plain bool_type one.0) _ test.0) ∙ test.1) h)))
      safe_evaluate base x (Box ty of at) g e s =
          let one = some_then (type_of_boxed w ty) (type_of_expr frame x of) g e in
          let test = is_if k (is_plain ty one.0 && is_immutable w ty) (BoxedOf ty) g one.2 in
          safe_then (safe_evaluate base x of one.0 one.1 s)
          (λ ks v f h. safe_that (safe_widened_from at ty v (second_of (is_plain ty one.0) _ test.0) (given_is w ks one.0 (Of ty) v (plain_of w ty one.0 (first_of (is_plain ty one.0) _ test.0)) h))
          (λ js u i t. given_is w js (BoxedOf ty) g u test.1 t))

      pub safe_evaluate_all : (base : List ObjectType) (x : TypingContext) (ty : ℕ) (list : Exprs) → are_assignable frame x ty list ≡ true → AreBoundTypes w local (exprs_sites frame x list) → Safe w base (spot x) (List Value) (λ ks vs. Each (HasTypeIf w ks (Some ty)) vs) (evaluate_all p go list)
      safe_evaluate_all base x ty no_exprs h s = safe_pure [] (λ ks f. tt)
      safe_evaluate_all base x ty (expr e more) h s =
          let sites = each_split (λ st. bound_at st.0 ≡ Some st.1) (expr_sites frame x e) (exprs_sites frame x more) s in
          let both = all_go_each w frame x ty e more h in
          let goes = value_goes_is w ty (type_of_expr frame x e) both.0 in
          safe_then (safe_evaluate base x e goes.0 goes.1 sites.0)
          (λ ks v f t. safe_then (safe_evaluate_all ks x ty more both.1 sites.1)
          (λ js vs i are. safe_pure (v ∷ vs) (λ hs j. (type_later w (extends_trans i j) v ty (given_goes k ks goes.0 ty v goes.2 t), each_that vs (type_if_later w j (Some ty)) are))))

      pub safe_evaluate_args : (base : List ObjectType) (x : TypingContext) (test : Mode → Bool) (params : List ParamType) (list : Args) → ArgsAre frame x params list → AreBoundTypes w local (args_sites frame x list) → Safe w base (spot x) (List (Option Value)) (λ ks vs. PartWell w ks test params vs) (evaluate_args p go test list)
      safe_evaluate_args base x test [] no_args h s = safe_pure [] (λ ks f. tt)
      safe_evaluate_args base x test [] (arg a more) h s = absurd h
      safe_evaluate_args base x test (q ∷ params) no_args h s = absurd h
      safe_evaluate_args base x test (q ∷ params) (arg a more) h s =
          let sites = each_split (λ st. bound_at st.0 ≡ Some st.1) (arg_sites frame x a) (args_sites frame x more) s in
          safe_then (safe_evaluate_arg base x test q a h.0 sites.0)
          (λ ks v f t. safe_then (safe_evaluate_args ks x test params more h.1 sites.1)
          (λ js vs i are. safe_pure (v ∷ vs) (λ hs j. (part_later w (extends_trans i j) (test q.mode) q v t, parts_later w j test params vs are))))

      pub safe_evaluate_arg : (base : List ObjectType) (x : TypingContext) (test : Mode → Bool) (q : ParamType) (a : Arg) → arg_fits frame x (Some q) a ≡ true → AreBoundTypes w local (arg_sites frame x a) → Safe w base (spot x) (Option Value) (λ ks v. PartOf (test q.mode) (λ u. HasType w ks u q.ty) q.mode v) (evaluate_arg p go test a)
      safe_evaluate_arg base x test q (tree.Value m e) h s =
          let given = value_given frame x q m (type_of_expr frame x e) h in
          safe_that (safe_if {P = λ ks v. PartOf (test m) (λ u. HasType w ks u q.ty) m v} (test m)
          (λ t. safe_then (safe_evaluate base x e given.0 given.1 s)
          (λ ks v f i. safe_pure (Some v) (λ js j. subst (λ b. PartOf b (λ u. HasType w js u q.ty) m (Some v)) (sym t)
          (given_arg w (λ u. HasType w js u q.ty) false m v given.3 (type_later w j v q.ty (given_goes k ks given.0 q.ty v given.4 i))))))
          (λ t. safe_pure None (λ js j. subst (λ b. PartOf b (λ u. HasType w js u q.ty) m None) (sym t) refl)))
          (λ ks v f i. subst (λ n. PartOf (test n) (λ u. HasType w ks u q.ty) n v) (sym given.2) i)
      safe_evaluate_arg base x test q (Variable m var) h s =
          let fits = variable_is frame x q m var (slice_get vars var) refl h in
          safe_that (safe_if {P = λ ks v. PartOf (test m) (λ u. HasType w ks u q.ty) m v} (test m)
          (λ t. safe_if (is_read m)
          (λ r. safe_then (safe_read k.well var fits.0 fits.1)
          (λ ks v f i. safe_pure (Some v) (λ js j. subst (λ b. PartOf b (λ u. HasType w js u q.ty) m (Some v)) (sym t)
          (read_arg w (λ u. HasType w js u q.ty) m v r (type_later w j v q.ty (subst (HasType w ks v) ((read_part w ks q m fits.0 fits.3).0 r) i))))))
          (λ r. safe_pure None (λ js j. subst (λ b. PartOf b (λ u. HasType w js u q.ty) m None) (sym t) ((read_part w js q m fits.0 fits.3).1 r))))
          (λ t. safe_pure None (λ js j. subst (λ b. PartOf b (λ u. HasType w js u q.ty) m None) (sym t) refl)))
          (λ ks v f i. subst (λ n. PartOf (test n) (λ u. HasType w ks u q.ty) n v) (sym fits.2) i)
      safe_evaluate_arg base x test q Open h s = absurd (true≢false (sym h))

      pub safe_evaluate_kept : (base : List ObjectType) (x : TypingContext) (own next : List ParamType) (list : Args) → KeptAre frame x own next list → AreBoundTypes w local (args_sites frame x list) → Safe w base (spot x) (List (Option Value)) (λ ks vs. KeptWell w ks own next vs) (evaluate_args p go every list)
      safe_evaluate_kept base x [] [] no_args h s = safe_pure [] (λ ks f. tt)
      safe_evaluate_kept base x (q ∷ own) next (arg (tree.Value m e) more) h s =
          let sites = each_split (λ st. bound_at st.0 ≡ Some st.1) (expr_sites frame x e) (args_sites frame x more) s in
          let given = value_given frame x q m (type_of_expr frame x e) h.0 in
          safe_then {P = λ ks v. (u : Value) × (v ≡ Some u) × HasType w ks u q.ty}
          (safe_then (safe_evaluate base x e given.0 given.1 sites.0) (λ ks v f i. safe_pure (Some v) (λ js j. (v, refl, type_later w j v q.ty (given_goes k ks given.0 q.ty v given.4 i)))))
          (λ ks v f i. safe_then (safe_evaluate_kept ks x own next more h.1 sites.1)
          (λ js vs j are. safe_pure (v ∷ vs) (λ hs l. subst (λ o. KeptWell w hs (q ∷ own) next (o ∷ vs)) (sym i.1)
          (subst (λ n. is_value_mode n ≡ true) (sym given.2) given.3, type_later w (extends_trans j l) i.0 q.ty i.2, kept_later w l own next vs are))))
      safe_evaluate_kept base x (q ∷ own) (n ∷ next) (arg Open more) h s =
          safe_then {P = λ ks v. v ≡ None} (safe_pure None (λ ks f. refl))
          (λ ks v f i. safe_then (safe_evaluate_kept ks x own next more h.1 s)
          (λ js vs j are. safe_pure (v ∷ vs) (λ hs l. subst (λ o. KeptWell w hs (q ∷ own) (n ∷ next) (o ∷ vs)) (sym i) (left_is w q n h.0, kept_later w l own next vs are))))
      safe_evaluate_kept base x [] (n ∷ next) list h s = absurd h
      safe_evaluate_kept base x [] [] (arg a more) h s = absurd h
      safe_evaluate_kept base x (q ∷ own) next no_args h s = absurd h
      safe_evaluate_kept base x (q ∷ own) next (arg (Variable m var) more) h s = absurd h
      safe_evaluate_kept base x (q ∷ own) [] (arg Open more) h s = absurd h
