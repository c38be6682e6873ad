-- Statements are safe, and so are their continuations.
use Rattle.std.proofs.Common.{◌≡◌, ℕ, inl, inr, Bool, true, false, not, ◌&&◌, ◌==◌, if◌then◌else◌, List, ◌++◌, map, Option, Some, None, slice_get, is_some, refl, sym, ap, subst, ◌∙◌, true≢false, eqb-true}
use Rattle.std.specs.Option.{option_map_or}
use Rattle.std.proofs.lemmas.Bool.{or_left, not_from_true}
use Rattle.std.proofs.lemmas.Option.{same_Some, none-some}
use Rattle.sa_ast.specs.declared.fault_kind.FaultKind.TheVariants as fault_kind
use Rattle.sa_ast.specs.declared.pos.Pos.{Pos}
use Rattle.sa_typed.specs.declared.feature.TypedFeature.{TypedFeature}
use Rattle.sa_typed.specs.Tree.{Expr, Exprs, no_exprs, expr, Exit, Break, While, Until, Stmt, Assign, ExprStmt, If, Loop, ExitLoop, TypeCase, Protect, Return, Yield, Quit, Raise, Fault, Stmts, no_stmts, stmt, Tests, no_tests, branch, Arms, no_arms, arm, Else, no_else, otherwise}
use Rattle.sa_typing.specs.declared.expr_type.ExprType.{ExprType}
use Rattle.sa_typing.specs.declared.expr_type.ExprType.TheVariants.{NoValue, Of, BoxedOf}
use Rattle.sa_typing.specs.declared.context.TypingContext.{TypingContext}
use Rattle.sa_typing.specs.Rows.{Rows, is_supertype, is_strict_supertype, is_abstract, is_immutable, is_type}
use Rattle.sa_typing.specs.Builtins.{bool_type, ob_type, str_type}
use Rattle.sa_typing.specs.Expressions.{is_assignable_expr, type_of_expr}
use Rattle.sa_typing.specs.Features.{feature_env}
use Rattle.sa_typing.specs.Forms.{is_test, is_assignable_type}
use Rattle.sa_typing.specs.ExprType.{is_assignable, is_plain}
use Rattle.sa_typing.specs.Contexts.{Env, guarded, in_branch, in_loop, is_inner, may_leave}
use Rattle.sa_typing.specs.Sites.{expr_sites, exprs_sites, exit_sites, option_expr_sites, stmt_sites, stmts_sites, tests_sites, cases_sites, branches_sites, else_sites}
use Rattle.sa_typing.specs.Statements.{are_tests, gives_as, is_branch_variable, narrowed, well_branches, well_cases, well_else, well_exit, well_stmt, well_stmts, well_tests}
use Rattle.sa_semantics.specs.Program.{Program, feature_of}
use Rattle.sa_semantics.specs.Value.{Value, Void, Int, Truth, Char, Text, Ref, Imm, Bound, Boxed, as_truth, is_nothing, unboxed}
use Rattle.sa_semantics.specs.Sequence.{resolve, ◌>>=◌, ◌>>◌, change, stop, at_index}
use Rattle.sa_semantics.specs.State.{Continuation, Finished, Then, InLoop, all_of, append, Object, State, AbruptCause, Broke, Raised, Failed, InputFailed, Outcome, Completion, Done, Quitting, Yielding, Returning}
use Rattle.sa_semantics.specs.Steps.{Eval, fault}
use Rattle.sa_semantics.specs.Calls.{dynamic_type, type_of}
use Rattle.sa_semantics.specs.Instances.{clear_sites, end_sites, clear_loop, end_loop}
use Rattle.sa_semantics.specs.Evaluation.{evaluate, evaluate_tests, truth_of}
use Rattle.sa_semantics.specs.Statements as statements
use Rattle.sa_semantics.specs.Statements.{after_statement, run_then, set_exception, not_suspended, with_exception, catch, while_true, until_true, takes, raise_value, round, after_round, out_of_round, run_loop, value_of, test_of, leave_loop, execute, execute_all, execute_first, execute_case, execute_branch, execute_else, execute_else_with, resume_at, run_to}
use Rattle.sa_type_safety.specs.Typing.{ObjectType, object_type_of, heap_typing, HeapExtends, CodeEnv, IsLocal, local_of, HasType, HasTypeIf, AreBoundTypes, StmtsWell, ContinuationWell, ExceptionWell, CompletionWell}
use Rattle.sa_type_safety.proofs.Facts.{first_of, second_of, one_of, not_true}
use Rattle.sa_type_safety.proofs.ProgramFacts.{ProgramFacts}
use Rattle.sa_type_safety.proofs.Worlds.{type_later, type_if_later, each_split, exception_later}
use Rattle.sa_type_safety.proofs.Safe.{Point, IsAt, AbruptCauseWell, SafeOutcome, give, halt, exhaust, SafeTo, Safe, safe, Any, Passes, ends, safe_resolve, safe_then, safe_before, safe_looking, safe_going, safe_change, safe_some, safe_with, safe_if, safe_turn, safe_pure, safe_look, safe_stop, safe_that, extends_trans, extends_refl}
use Rattle.sa_type_safety.proofs.SafeSteps.{safe_fault, safe_read, safe_write}
use Rattle.sa_type_safety.proofs.Dynamic.{dynamic_of, known_type, raw_type_is}
use Rattle.sa_type_safety.proofs.Passing.{held_alone}
use Rattle.sa_type_safety.proofs.Forms.{truth_form}
use Rattle.sa_type_safety.proofs.SafeRoutines.{spot_of, IsSafe, all_left}
use Rattle.sa_type_safety.proofs.SafeInstances.{kept_well}
use Rattle.sa_type_safety.proofs.SafeCalls.{GivenIs}
use Rattle.sa_type_safety.proofs.SafeArguments.{given_goes}
use Rattle.sa_type_safety.proofs.SafeExpressions.{safe_evaluate}

-- ---- continuations one after another

module _ (w : Rows) where
  joined_well : (l : CodeEnv) (at : TypingContext) (r rest : Continuation) → ContinuationWell w l at r → ContinuationWell w l at rest → ContinuationWell w l at (append r rest)
  joined_well l at Finished rest h g = g
  joined_well l at (Then a more) rest h g = (h.0, joined_well l at more rest h.1 g)
  joined_well l at (InLoop loop body inner more) rest h g = (h.0, h.1, h.2, joined_well l at more rest h.3 g)

module _ {w : Rows} {p : Program} (k : ProgramFacts w p) (go : Continuation → Eval Completion) (safely : IsSafe w go) (n : ℕ) (f : TypedFeature) (is : slice_get w.features n ≡ Some f) where
  abbrev x : TypingContext → Point
  x at = spot_of w n f at

  abbrev fr : Env
  fr = feature_env w f

  abbrev l : CodeEnv
  l = local_of w n f

  -- the run of a statement that is well typed in a context
  abbrev Runs : List ObjectType → TypingContext → Eval Completion → Type 0
  Runs base at g = Safe w base (x at) Completion (λ ks flow. CompletionWell w ks l at flow) g

  flow_later : {old new : List ObjectType} (at : TypingContext) (flow : Completion) → HeapExtends old new → CompletionWell w old l at flow → CompletionWell w new l at flow
  flow_later at Done e h = tt
  flow_later at Quitting e h = h
  flow_later at (Yielding v r) e h = (h.0, h.1, type_if_later w e f.result v h.2, h.3)
  flow_later at (Returning v) e h = (h.0, type_if_later w e f.result v h.1)

  isl : IsLocal w l
  isl = inl (n, f, is, refl)

  -- ---- expressions in statements

  safe_value : (base : List ObjectType) (at : TypingContext) (e : Expr) (g : ExprType) → type_of_expr fr at e ≡ Some g → AreBoundTypes w l (expr_sites fr at e) → Safe w base (x at) Value (λ ks v. GivenIs w ks g v) (evaluate p go e)
  safe_value base at e g t s = safe_evaluate k go safely f.class f.vars f.sites f.iter f.result (Some n) l.bound_at isl base at e g t s

  goes_is : (ty : ℕ) (o : Option ExprType) → is_assignable_type w ty o ≡ true → (g : ExprType) × (o ≡ Some g) × (is_assignable w g ty ≡ true)
  goes_is ty None h = absurd (true≢false (sym h))
  goes_is ty (Some g) h = (g, refl, h)

  -- an expression that is assignable to a type
  safe_goes : (base : List ObjectType) (at : TypingContext) (ty : ℕ) (e : Expr) → is_assignable_expr fr at ty e ≡ true → AreBoundTypes w l (expr_sites fr at e) → Safe w base (x at) Value (λ ks v. HasType w ks v ty) (evaluate p go e)
  safe_goes base at ty e h s =
      let found = goes_is ty (type_of_expr fr at e) h in
      safe_that (safe_value base at e found.0 found.1 s) (λ ks v i t. given_goes k ks found.0 ty v found.2 t)

  test_is : (o : Option ExprType) → is_test o ≡ true → (g : ExprType) × (o ≡ Some g) × (is_plain bool_type g ≡ true)
  test_is None h = absurd (true≢false (sym h))
  test_is (Some g) h = (g, refl, h)

  plain_bool : (g : ExprType) → is_plain bool_type g ≡ true → is_assignable w g bool_type ≡ true
  plain_bool NoValue e = absurd (true≢false (sym e))
  plain_bool (Of own) e = or_left (own == bool_type) (not (is_immutable w own) && is_strict_supertype w bool_type own) e
  plain_bool (BoxedOf own) e = absurd (true≢false (sym e))

  safe_test : (base : List ObjectType) (at : TypingContext) (e : Expr) → is_test (type_of_expr fr at e) ≡ true → AreBoundTypes w l (expr_sites fr at e) → Safe w base (x at) Bool Any (evaluate p go e >>= truth_of)
  safe_test base at e h s =
      let found = test_is (type_of_expr fr at e) h in
      safe_then (safe_value base at e found.0 found.1 s)
      (λ ks v i t. let form = truth_form k ks v (given_goes k ks found.0 bool_type v (plain_bool found.0 found.2) t) in safe_some form.0 (ap as_truth form.1) (λ js j. tt))

  -- ---- loops

  -- the sites of the running feature are cleared but for some
  safe_cleared : {base : List ObjectType} (at : TypingContext) (next : State → State) → ((s : State) → HeapExtends base (heap_typing s) → IsAt w (x at) s → IsAt w (x at) (next s) × (heap_typing (next s) ≡ heap_typing s)) → Safe w base (x at) (Unit {0}) Any (change next)
  safe_cleared at next h = safe_change _ (λ s e it. let there = h s e it in (subst (HeapExtends (heap_typing s)) (sym there.1) (extends_refl (heap_typing s)), there.0))

  safe_clear_loop : {base : List ObjectType} (at : TypingContext) (loop : ℕ) → Safe w base (x at) (Unit {0}) Any (clear_loop p loop)
  safe_clear_loop at loop =
      safe_then {P = λ ks m. m ≡ n} (safe_looking _ (λ s g it. safe_some n it.here.feature (λ ks i. refl)))
      (λ ks m e same. subst (λ q. Safe w ks (x at) (Unit {0}) Any (at_index p.features q >>= (λ g. change (clear_sites g.sites loop)))) (sym same)
      (safe_with _ (feature_of f) (k.feature_at n f is)
      (safe_change _ (λ s i it. (
        extends_refl _,
        record {
          objects = it.objects;
          shareds = it.shareds;
          here = record {
            feature = it.here.feature;
            self = it.here.self;
            variables = it.here.variables;
            sites = kept_well w (heap_typing s) l _ s.here.sites it.here.sites;
            exception = it.here.exception;
          };
        },
      )))))

  safe_end_loop : {base : List ObjectType} (at : TypingContext) (loop : ℕ) → Safe w base (x at) (Unit {0}) Any (end_loop p loop)
  safe_end_loop at loop =
      safe_then {P = λ ks m. m ≡ n} (safe_looking _ (λ s g it. safe_some n it.here.feature (λ ks i. refl)))
      (λ ks m e same. subst (λ q. Safe w ks (x at) (Unit {0}) Any (at_index p.features q >>= (λ g. change (end_sites q g.sites loop)))) (sym same)
      (safe_with _ (feature_of f) (k.feature_at n f is)
      (safe_change _ (λ s i it. (
        extends_refl _,
        record {
          objects = it.objects;
          shareds = it.shareds;
          here = record {
            feature = it.here.feature;
            self = it.here.self;
            variables = it.here.variables;
            sites = kept_well w (heap_typing s) l _ s.here.sites it.here.sites;
            exception = it.here.exception;
          };
        },
      )))))

  -- from the context inside a loop to the one around it, and back: only what is known of the exception counts, which is the same
  outer : (at : TypingContext) (loop : ℕ) (s : State) → IsAt w (x (in_loop loop at)) s → IsAt w (x at) s
  outer at loop s h = record { objects = h.objects; shareds = h.shareds; here = record { feature = h.here.feature; self = h.here.self; variables = h.here.variables; sites = h.here.sites; exception = h.here.exception } }

  inner : (at : TypingContext) (loop : ℕ) (s : State) → IsAt w (x at) s → IsAt w (x (in_loop loop at)) s
  inner at loop s h = record { objects = h.objects; shareds = h.shareds; here = record { feature = h.here.feature; self = h.here.self; variables = h.here.variables; sites = h.here.sites; exception = h.here.exception } }

  leaving : (base : List ObjectType) (at : TypingContext) (loop : ℕ) {A : Type 0} {P : List ObjectType → A → Type 0} {g : Eval A} → Safe w base (x at) A P g → SafeTo w base (x (in_loop loop at)) (x at) A P g
  leaving base at loop h = safe (λ s e it. ends h s e (outer at loop s it))

  -- a loop whose body is well typed
  record LoopWell (at : TypingContext) (loop : ℕ) (body : Stmts) : Type 0 where
    numbered : is_inner loop at ≡ true
    body_well : StmtsWell w l (in_loop loop at) body

  safe_round : (base : List ObjectType) (at : TypingContext) (loop : ℕ) (body : Stmts) → LoopWell at loop body → Runs base at (round p go loop body)
  safe_round base at loop body h =
      safe_turn (safe_that (safely n f is at (InLoop loop body (all_of body) Finished) (h.numbered, h.body_well, all_left k l (in_loop loop at) body h.body_well, tt) base) (λ ks flow e t. t.0))

  -- what follows a round, seen from around the loop
  safe_after_round : (base : List ObjectType) (at : TypingContext) (loop : ℕ) (body : Stmts) → LoopWell at loop body → (flow : Completion) → CompletionWell w base l (in_loop loop at) flow → SafeTo w base (x (in_loop loop at)) (x at) Completion (λ ks g. CompletionWell w ks l at g) (after_round p go loop body flow)
  safe_after_round base at loop body h Done t = leaving base at loop (safe_round base at loop body h)
  safe_after_round base at loop body h (Yielding v r) t =
      leaving base at loop (safe_pure (Yielding v (InLoop loop body r Finished)) (λ ks e. (t.0, t.1, type_if_later w e f.result v t.2, (h.numbered, h.body_well, t.3, tt))))
  safe_after_round base at loop body h Quitting t = leaving base at loop (safe_before (safe_end_loop at loop) (λ ks e. safe_pure Quitting (λ js i. t)))
  safe_after_round base at loop body h (Returning v) t =
      leaving base at loop (safe_before (safe_end_loop at loop) (λ ks e. safe_pure (Returning v) (λ js i. (t.0, type_if_later w (extends_trans e i) f.result v t.1))))

  passes_round : (base : List ObjectType) (at : TypingContext) (loop : ℕ) → Passes w base (x (in_loop loop at)) (x at) (λ ks g. CompletionWell w ks l at g) (out_of_round p go loop)
  passes_round base at loop Broke s e c = ends (safe_before (safe_end_loop at loop) (λ ks i. safe_pure Done (λ js j. tt))) s (extends_refl _) (outer at loop s c.0)
  passes_round base at loop (Raised v kind pos) s e c =
      ends (safe_before (safe_end_loop at loop) (λ ks i. safe_stop (Raised v kind pos) (λ t j it. (it, type_later w (extends_trans i j) v _ c.1)))) s (extends_refl _) (outer at loop s c.0)
  passes_round base at loop (Failed kind pos) s e c = halt _ s (extends_refl _) tt
  passes_round base at loop InputFailed s e c = halt _ s (extends_refl _) tt

  -- a round or the rest of one, and then the further rounds
  safe_looped : (base : List ObjectType) (at : TypingContext) (loop : ℕ) (body : Stmts) (g : Eval Completion) → LoopWell at loop body → ((ks : List ObjectType) → Runs ks (in_loop loop at) g) → Runs base at (run_loop p go loop body g)
  safe_looped base at loop body g h m =
      safe_resolve {y = x (in_loop loop at)} (safe (λ s e it. ends (m base) s e (inner at loop s it)))
      (λ ks flow e t. safe_after_round ks at loop body h flow t) (passes_round base at loop)

  -- ---- exceptions

  -- from a branch of a protect to the context around it: the exception is what it was before
  safe_restored : {base : List ObjectType} (at to : TypingContext) (exception : Option Value) → ExceptionWell w base to.branch exception → SafeTo w base (x at) (x to) (Unit {0}) Any (set_exception exception)
  safe_restored at to exception h =
      safe (λ s e it. give tt _ (extends_refl _) (record {
        objects = it.objects;
        shareds = it.shareds;
        here = record { feature = it.here.feature; self = it.here.self; variables = it.here.variables; sites = it.here.sites; exception = exception_later w e to.branch exception h };
      }) tt)

  safe_not_suspended : (base : List ObjectType) (inside at : TypingContext) (flow : Completion) → inside.protected ≡ true → CompletionWell w base l inside flow → Runs base at (not_suspended flow)
  safe_not_suspended base inside at Done e h = safe_pure Done (λ ks i. tt)
  safe_not_suspended base inside at (Returning v) e h = safe_pure (Returning v) (λ ks i. (h.0, type_if_later w i f.result v h.1))
  safe_not_suspended base inside at Quitting e h = absurd (true≢false (sym e ∙ h.1))
  safe_not_suspended base inside at (Yielding v r) e h = absurd (true≢false (sym e ∙ h.1))

  stopped : {A : Type 0} {P : List ObjectType → A → Type 0} (at : TypingContext) (exception : Option Value) (c : AbruptCause) (s : State) → AbruptCauseWell w (x at) c (record s { here = record (s.here) { exception = exception } }) → SafeOutcome w (heap_typing s) (x at) A P ((set_exception exception >> stop c) s)
  unfolding resolve
  stopped at exception c s h = halt c _ (extends_refl _) h

  passes_exception : (base : List ObjectType) (at : TypingContext) (ty : ℕ) (exception : Option Value) → at.guarded ≡ true → ExceptionWell w base at.branch exception → Passes w base (x (in_branch ty at)) (x at) (λ ks g. CompletionWell w ks l at g) (λ cause. set_exception exception >> stop cause)
  passes_exception base at ty exception guard h Broke s e c =
      absurd (true≢false (sym (second_of (is_some at.owner) (not at.guarded) c.1) ∙ not_from_true at.guarded guard))
  passes_exception base at ty exception guard h (Raised v kind pos) s e c =
      ends (safe_before (safe_restored (in_branch ty at) at exception (exception_later w e at.branch exception h)) (λ ks i. safe_stop (Raised v kind pos) (λ t j it. (it, type_later w (extends_trans i j) v _ c.1)))) s (extends_refl _) c.0
  passes_exception base at ty exception guard h (Failed kind pos) s e c = stopped at exception (Failed kind pos) s tt
  passes_exception base at ty exception guard h InputFailed s e c = stopped at exception InputFailed s tt

  -- the statements of a branch, which has an exception of a type
  safe_with_exception : (base : List ObjectType) (at : TypingContext) (ty : ℕ) (v : Value) (g : Eval Completion) → at.protected ≡ true → at.guarded ≡ true → HasType w base v ty → ((ks : List ObjectType) → Runs ks (in_branch ty at) g) → Runs base at (with_exception v g)
  safe_with_exception base at ty v g e guard h m =
      safe_looking _ (λ s i it.
      safe_going {y = x (in_branch ty at)} _ (λ t j is'. (
        extends_refl _,
        record {
          objects = is'.objects;
          shareds = is'.shareds;
          here = record { feature = is'.here.feature; self = is'.here.self; variables = is'.here.variables; sites = is'.here.sites; exception = type_later w (extends_trans i j) v ty h };
        },
      ))
      (λ ks j. safe_resolve {y = x (in_branch ty at)} (m ks)
      (λ js flow d t. safe_before (safe_restored (in_branch ty at) at s.here.exception (exception_later w (extends_trans j d) at.branch s.here.exception it.here.exception)) (λ hs c. safe_not_suspended hs (in_branch ty at) at flow e (flow_later (in_branch ty at) flow c t)))
      (passes_exception ks at ty s.here.exception guard (exception_later w j at.branch s.here.exception it.here.exception))))

  -- ---- statements

  safe_after : (base : List ObjectType) (at : TypingContext) (rest : Continuation) (run : Eval Completion) → ContinuationWell w l at rest → (flow : Completion) → CompletionWell w base l at flow → ((ks : List ObjectType) → Runs ks at run) → Runs base at (after_statement rest run flow)
  safe_after base at rest run h Done t b = b base
  safe_after base at rest run h (Yielding v r) t b = safe_pure (Yielding v (append r rest)) (λ ks e. (t.0, t.1, type_if_later w e f.result v t.2, joined_well w l at r rest t.3 h))
  safe_after base at rest run h Quitting t b = safe_pure Quitting (λ ks e. t)
  safe_after base at rest run h (Returning v) t b = safe_pure (Returning v) (λ ks e. (t.0, type_if_later w e f.result v t.1))

  -- what follows a statement
  safe_followed : (base : List ObjectType) (at : TypingContext) (first : Eval Completion) (rest : Continuation) (run : Eval Completion) → ContinuationWell w l at rest → Runs base at first → ((ks : List ObjectType) → Runs ks at run) → Runs base at (run_then first rest run)
  safe_followed base at first rest run h a b = safe_then a (λ ks flow e t. safe_after ks at rest run h flow t b)

  -- ---- branches

  void_untyped : (objects : List Object) (v : Value) (own : ℕ) → is_nothing v ≡ true → type_of objects v ≡ Some own → ⊥
  void_untyped objects Void own e s = none-some own s
  void_untyped objects _ own e s = true≢false (sym e)

  above_of : (ty low : ℕ) → is_supertype w ty low ≡ true → is_immutable w low ≡ true → is_immutable w ty ≡ false → is_strict_supertype w ty low ≡ true
  above_of ty low e i n =
      elim (one_of (ty == low) (is_strict_supertype w ty low) e) as (λ z. is_strict_supertype w ty low ≡ true)
      [ inl same ↦ absurd (true≢false (sym (subst (λ m. is_immutable w m ≡ true) (sym (eqb-true ty low same)) i) ∙ n)) | inr b ↦ b ]

  some_there : {A : Type 0} (o : Option A) → is_some o ≡ true → (a : A) × (o ≡ Some a)
  some_there None h = absurd (true≢false (sym h))
  some_there (Some a) h = (a, refl)

  cases_tested : (at : TypingContext) (o : Option ℕ) (arms : Arms) → well_cases fr at o arms ≡ true → (tested : ℕ) × (o ≡ Some tested) × (well_cases fr at (Some tested) arms ≡ true)
  cases_tested at None arms h = absurd (true≢false (sym h))
  cases_tested at (Some tested) arms h = (tested, refl, h)

  -- a value of a type that isn't immutable is of each supertype of its dynamic type that isn't immutable either
  retyped : (objects : List Object) (v : Value) (upper own ty : ℕ) → is_immutable w upper ≡ false → HasType w (map object_type_of objects) v upper → type_of objects v ≡ Some own → is_supertype w ty own ≡ true → is_immutable w ty ≡ false → HasType w (map object_type_of objects) v ty
  retyped objects Void upper own ty u h s e i = absurd (none-some own s)
  retyped objects (Int z) upper own ty u h s e i = absurd (true≢false (sym (subst (λ m. is_immutable w m ≡ true) (sym h) k.int_immutable) ∙ u))
  retyped objects (Truth b) upper own ty u h s e i = absurd (true≢false (sym (subst (λ m. is_immutable w m ≡ true) (sym h) k.bool_immutable) ∙ u))
  retyped objects (Char byte) upper own ty u h s e i = absurd (true≢false (sym (subst (λ m. is_immutable w m ≡ true) (sym h) k.char_immutable) ∙ u))
  retyped objects (Text bytes) upper own ty u h s e i = subst (λ m. is_supertype w ty m ≡ true) (sym (same_Some str_type own s)) e
  retyped objects (Ref number) upper own ty u h s e i =
      (h.0, h.1, h.2, subst (λ m. is_supertype w ty m ≡ true) (sym (same_Some h.0 own (sym (known_type k objects number _ h.1) ∙ s))) e)
  retyped objects (Imm named inside) upper own ty u h s e i = absurd (true≢false (sym (subst (λ m. is_immutable w m ≡ true) h.0 (first_of (is_immutable w named) _ h.1)) ∙ u))
  retyped objects (Bound number) upper own ty u h s e i =
      (h.0, h.1, h.2, h.3, subst (λ m. is_supertype w ty m ≡ true) (sym (same_Some h.0 own (sym (known_type k objects number _ h.2) ∙ s))) e)
  retyped objects (Boxed v) upper own ty u h s e i =
      let same : h.0 ≡ own = same_Some h.0 own (sym (raw_type_is k objects v h.0 h.2 h.1) ∙ s) in
      (h.0, h.1, h.2, above_of ty h.0 (subst (λ m. is_supertype w ty m ≡ true) (sym same) e) h.2 i)

  -- what a typecase or a protect knows of a value that isn't void: its type, the value inside, and of which types it is
  abbrev Knows : List ObjectType → ℕ → Value → Option ℕ → Type 0
  Knows ks upper v dynamic =
      (own : ℕ) → dynamic ≡ Some own
      → (is_supertype w upper own ≡ true) × HasType w ks (unboxed v) own
      × ((ty : ℕ) → is_immutable w upper ≡ false → is_supertype w ty own ≡ true → is_immutable w ty ≡ false → HasType w ks v ty)

  knows_later : {old new : List ObjectType} → HeapExtends old new → (upper : ℕ) (v : Value) (dynamic : Option ℕ) → Knows old upper v dynamic → Knows new upper v dynamic
  knows_later e upper v dynamic h own s = let all = h own s in (all.0, type_later w e (unboxed v) own all.1, λ ty u g i. type_later w e v ty (all.2 ty u g i))

  -- the value in a branch of a type, where the tested one isn't of an immutable class
  to_branch : (ks : List ObjectType) (ty own upper : ℕ) (v : Value) (b : Bool) → is_immutable w ty ≡ b → is_immutable w upper ≡ false → is_supertype w ty own ≡ true → HasType w ks (unboxed v) own → ((of : ℕ) → is_immutable w upper ≡ false → is_supertype w of own ≡ true → is_immutable w of ≡ false → HasType w ks v of) → HasType w ks (if b then unboxed v else v) ty
  to_branch ks ty own upper v true i u e inside h = subst (HasType w ks (unboxed v)) (sym (held_alone k ty own e i)) inside
  to_branch ks ty own upper v false i u e inside h = h ty u e i

  -- and what types it has: its own, where this is a subtype of that of the branch
  cased : (ks : List ObjectType) (ty own upper : ℕ) (v : Value) (b c u : Bool) → is_supertype w ty upper ≡ b → is_immutable w ty ≡ c → is_immutable w upper ≡ u → is_supertype w ty own ≡ true → is_supertype w upper own ≡ true → HasType w ks (unboxed v) own → HasType w ks v upper → ((of : ℕ) → is_immutable w upper ≡ false → is_supertype w of own ≡ true → is_immutable w of ≡ false → HasType w ks v of) → HasType w ks (if c then unboxed v else v) (if b then upper else ty)
  cased ks ty own upper v true true u s i m e g inside h more =
      let same = held_alone k ty upper s i in
      subst (HasType w ks (unboxed v)) (sym (held_alone k upper own g (subst (λ n. is_immutable w n ≡ true) same i))) inside
  cased ks ty own upper v true false u s i m e g inside h more = h
  cased ks ty own upper v false true u s i m e g inside h more = subst (HasType w ks (unboxed v)) (sym (held_alone k ty own e i)) inside
  cased ks ty own upper v false false true s i m e g inside h more =
      absurd (true≢false (sym (subst (λ n. is_supertype w ty n ≡ true) (sym (held_alone k upper own g m)) e) ∙ s))
  cased ks ty own upper v false false false s i m e g inside h more = more ty m e i

  -- the type that the tested variable has in a branch
  safe_case_value : (ks : List ObjectType) (ty own upper : ℕ) (v : Value) → is_supertype w ty own ≡ true → is_supertype w upper own ≡ true → HasType w ks (unboxed v) own → HasType w ks v upper → ((of : ℕ) → is_immutable w upper ≡ false → is_supertype w of own ≡ true → is_immutable w of ≡ false → HasType w ks v of) → HasType w ks (statements.narrow p ty v) (narrowed fr upper ty)
  safe_case_value ks ty own upper v e g inside h more =
      subst (λ b. HasType w ks (if b then unboxed v else v) (narrowed fr upper ty)) (sym (k.immutable_is ty))
      (cased ks ty own upper v (is_supertype w ty upper) (is_immutable w ty) (is_immutable w upper) refl refl refl e g inside h more)

  takes_is : (ty : ℕ) (o : Option ℕ) → takes p ty o ≡ true → (own : ℕ) × (o ≡ Some own) × (is_supertype w ty own ≡ true)
  takes_is ty None e = absurd (true≢false (sym e))
  takes_is ty (Some own) e = (own, refl, sym (k.holds_is ty own) ∙ e)

  -- ---- all statements

  branch_variable : (tested ty var : ℕ) (o : Option ℕ) → slice_get f.vars var ≡ o → option_map_or (λ own. is_type w ty && own == narrowed fr tested ty) o false ≡ true → slice_get f.vars var ≡ Some (narrowed fr tested ty)
  branch_variable tested ty var None e h = absurd (true≢false (sym h))
  branch_variable tested ty var (Some own) e h = e ∙ ap (λ m. Some m) (eqb-true own (narrowed fr tested ty) (second_of (is_type w ty) _ h))

  variable_there : (at : TypingContext) (var : ℕ) (e : Expr) (o : Option ℕ) → slice_get f.vars var ≡ o → option_map_or (λ ty. is_assignable_expr fr at ty e) o false ≡ true → (ty : ℕ) × (slice_get f.vars var ≡ Some ty) × (is_assignable_expr fr at ty e ≡ true)
  variable_there at var e None s h = absurd (true≢false (sym h))
  variable_there at var e (Some ty) s h = (ty, s, h)

  known_of_value : (objects : List Object) (upper : ℕ) (v : Value) (b : Bool) → is_nothing v ≡ b → HasType w (map object_type_of objects) v upper → Knows (map object_type_of objects) upper v (type_of objects v)
  known_of_value objects upper v true e h own s = absurd (void_untyped objects v own e s)
  known_of_value objects upper v false e h own s =
      let d = dynamic_of k objects v upper e h in
      let same = same_Some d.own own (sym d.is ∙ s) in
      (subst (λ m. is_supertype w upper m ≡ true) same d.held, subst (HasType w (map object_type_of objects) (unboxed v)) same d.inside, λ ty u g i. retyped objects v upper own ty u h s g i)

  safe_dynamic : {base : List ObjectType} (at : TypingContext) (upper : ℕ) (v : Value) → HasType w base v upper → Safe w base (x at) (Option ℕ) (λ ks o. Knows ks upper v o) (dynamic_type v)
  safe_dynamic at upper v h = safe_look (λ s e it. known_of_value s.objects upper v (is_nothing v) refl (type_later w e v upper h))

  safe_value_of : (base : List ObjectType) (at : TypingContext) (e : Option Expr) (gives : Option ℕ) → gives_as fr at e gives ≡ true → AreBoundTypes w l (option_expr_sites fr at e) → Safe w base (x at) Value (λ ks v. HasTypeIf w ks gives v) (value_of p go e)
  safe_value_of base at None None h s = safe_pure Void (λ ks i. tt)
  safe_value_of base at (Some e) (Some ty) h s = safe_goes base at ty e h s
  safe_value_of base at None (Some ty) h s = absurd (true≢false (sym h))
  safe_value_of base at (Some e) None h s = absurd (true≢false (sym h))

  safe_tests : (base : List ObjectType) (at : TypingContext) (list : Exprs) → are_tests fr at list ≡ true → AreBoundTypes w l (exprs_sites fr at list) → Safe w base (x at) Bool Any (evaluate_tests p go list)
  safe_tests base at no_exprs h s = safe_pure false (λ ks i. tt)
  safe_tests base at (expr e more) h s =
      let sites = each_split (λ st. l.bound_at st.0 ≡ Some st.1) (expr_sites fr at e) (exprs_sites fr at more) s in
      safe_then (safe_test base at e (first_of (is_test (type_of_expr fr at e)) _ h) sites.0)
      (λ ks b i t. safe_if b (λ y. safe_pure true (λ js j. tt)) (λ y. safe_tests ks at more (second_of (is_test (type_of_expr fr at e)) _ h) sites.1))

  safe_leave : (base : List ObjectType) (at : TypingContext) (e : Exit) → may_leave at ≡ true → well_exit fr at e ≡ true → AreBoundTypes w l (exit_sites fr at e) → Runs base at (leave_loop p go e)
  safe_leave base at Break m h s = safe_stop Broke (λ st i it. (it, m))
  safe_leave base at (While test) m h s = safe_then (safe_test base at test h s) (λ ks b i t. safe_if b (λ y. safe_pure Done (λ js j. tt)) (λ y. safe_stop Broke (λ st j it. (it, m))))
  safe_leave base at (Until test) m h s = safe_then (safe_test base at test h s) (λ ks b i t. safe_if b (λ y. safe_stop Broke (λ st j it. (it, m))) (λ y. safe_pure Done (λ js j. tt)))

  safe_raised : (base : List ObjectType) (at : TypingContext) (pos : Pos) (v : Value) → HasType w base v ob_type → Runs base at (raise_value p pos v)
  safe_raised base at pos v h = safe_if (is_nothing v) (λ t. safe_fault k.well p fault_kind.Void pos) (λ t. safe_stop (Raised v fault_kind.Uncaught pos) (λ st i it. (it, type_later w i v ob_type h)))

  ob_loose : is_immutable w ob_type ≡ false
  ob_loose = k.abstract_loose ob_type (first_of (is_abstract w ob_type) _ k.well.given)

  around : (at : TypingContext) (s : State) → IsAt w (x (guarded at)) s → IsAt w (x at) s
  around at s it = record { objects = it.objects; shareds = it.shareds; here = record { feature = it.here.feature; self = it.here.self; variables = it.here.variables; sites = it.here.sites; exception = it.here.exception } }

  unguarded_flow : (ks : List ObjectType) (at : TypingContext) (flow : Completion) → CompletionWell w ks l (guarded at) flow → CompletionWell w ks l at flow
  unguarded_flow ks at Done h = tt
  unguarded_flow ks at (Returning v) h = h
  unguarded_flow ks at Quitting h = absurd (true≢false h.1)
  unguarded_flow ks at (Yielding v r) h = absurd (true≢false h.1)

  unguarded_cause : (at : TypingContext) (c : AbruptCause) (s : State) → AbruptCauseWell w (x (guarded at)) c s → AbruptCauseWell w (x at) c s
  unguarded_cause at Broke s h = absurd (true≢false (sym (second_of (is_some at.owner) false h.1)))
  unguarded_cause at (Raised v kind pos) s h = (around at s h.0, h.1)
  unguarded_cause at (Failed kind pos) s h = tt
  unguarded_cause at InputFailed s h = tt

  unguarded_end : {base : List ObjectType} (at : TypingContext) (o : Outcome Completion) → SafeOutcome w base (x (guarded at)) Completion (λ ks flow. CompletionWell w ks l (guarded at) flow) o → SafeOutcome w base (x at) Completion (λ ks flow. CompletionWell w ks l at flow) o
  unguarded_end at _ (give flow s e it t) = give flow s e (around at s it) (unguarded_flow (heap_typing s) at flow t)
  unguarded_end at _ (halt c s e t) = halt c s e (unguarded_cause at c s t)
  unguarded_end at _ (exhaust s) = exhaust s

  -- what is protected is seen from around it
  unguarded : (base : List ObjectType) (at : TypingContext) (g : Eval Completion) → Runs base (guarded at) g → Runs base at g
  unguarded base at g h = safe (λ s e it. unguarded_end at _ (ends h s e (record { objects = it.objects; shareds = it.shareds; here = record { feature = it.here.feature; self = it.here.self; variables = it.here.variables; sites = it.here.sites; exception = it.here.exception } })))

  -- what is raised goes to the branches, and nothing else is caught
  passes_caught : (base : List ObjectType) (at : TypingContext) (branches : Value → Option ℕ → Eval Completion → Eval Completion) → at.guarded ≡ true → ((ks : List ObjectType) (v : Value) (dynamic : Option ℕ) (again : Eval Completion) → HasType w ks v ob_type → Knows ks ob_type v dynamic → ((js : List ObjectType) → HeapExtends ks js → Runs js at again) → Runs ks at (branches v dynamic again)) → Passes w base (x at) (x at) (λ ks flow. CompletionWell w ks l at flow) (catch branches)
  passes_caught base at branches g m Broke s e c = absurd (true≢false (sym (second_of (is_some at.owner) (not at.guarded) c.1) ∙ not_from_true at.guarded g))
  passes_caught base at branches g m (Raised v kind pos) s e c =
      ends (safe_then (safe_dynamic at ob_type v c.1) (λ ks dynamic i knows. m ks v dynamic (stop (Raised v kind pos)) (type_later w i v ob_type c.1) knows
      (λ js j. safe_stop (Raised v kind pos) (λ t o it. (it, type_later w (extends_trans i (extends_trans j o)) v ob_type c.1))))) s (extends_refl _) c.0
  passes_caught base at branches g m (Failed kind pos) s e c = halt _ s (extends_refl _) tt
  passes_caught base at branches g m InputFailed s e c = halt _ s (extends_refl _) tt

  mutual
    pub safe_execute : (base : List ObjectType) (at : TypingContext) (a : Stmt) → well_stmt fr at a ≡ true → AreBoundTypes w l (stmt_sites fr at a) → Runs base at (execute p go a)
    safe_execute base at (Assign var e) h s =
        let found = variable_there at var e (slice_get f.vars var) refl h in
        safe_before (safe_then (safe_goes base at found.0 e found.2 s) (λ ks v i t. safe_write k.well var found.0 v found.1 t)) (λ ks i. safe_pure Done (λ js j. tt))
    safe_execute base at (ExprStmt e) h s =
        let found = some_there (type_of_expr fr at e) h in
        safe_before (safe_value base at e found.0 found.1 s) (λ ks i. safe_pure Done (λ js j. tt))
    safe_execute base at (If tests other) h s =
        let sites = each_split (λ st. l.bound_at st.0 ≡ Some st.1) (tests_sites fr at tests) (stmts_sites fr at other) s in
        safe_execute_first base at tests (execute_all p go other) (first_of (well_tests fr at tests) _ h) sites.0 (λ ks. safe_execute_all ks at other (second_of (well_tests fr at tests) _ h) sites.1)
    safe_execute base at (Loop loop body) h s =
        safe_before (safe_clear_loop at loop) (λ ks i. safe_round ks at loop body (record { numbered = first_of (is_inner loop at) _ h; body_well = record { are = second_of (is_inner loop at) _ h; sites = s } }))
    safe_execute base at (ExitLoop e) h s = safe_leave base at e (first_of (may_leave at) _ h) (second_of (may_leave at) _ h) s
    safe_execute base at (TypeCase var arms other pos) h s =
        let sites = each_split (λ st. l.bound_at st.0 ≡ Some st.1) (cases_sites fr at arms) (else_sites fr at other) s in
        let tested = cases_tested at (slice_get f.vars var) arms (first_of (well_cases fr at (slice_get f.vars var) arms) _ h) in
        safe_then (safe_read k.well var tested.0 tested.1)
        (λ ks v i t. safe_then (safe_dynamic at tested.0 v t)
        (λ js dynamic j knows. safe_execute_case js at tested.0 v dynamic arms (execute_else p go other (fault p fault_kind.NoBranch pos)) tested.2 sites.0 (type_later w j v tested.0 t) knows
        (λ hs. safe_execute_else hs at other (fault p fault_kind.NoBranch pos) (second_of (well_cases fr at (slice_get f.vars var) arms) _ h) sites.1 (λ ls. safe_fault k.well p fault_kind.NoBranch pos))))
    safe_execute base at (Protect body arms other) h s =
        let q = guarded at in
        let one = each_split (λ st. l.bound_at st.0 ≡ Some st.1) (stmts_sites fr q body) (branches_sites fr q arms ++ else_sites fr (in_branch ob_type q) other) s in
        let two = each_split (λ st. l.bound_at st.0 ≡ Some st.1) (branches_sites fr q arms) (else_sites fr (in_branch ob_type q) other) one.1 in
        let rest = second_of (well_stmts fr q body) _ h in
        unguarded base at _ (safe_resolve {y = x q} (safe_execute_all base q body (first_of (well_stmts fr q body) _ h) one.0)
        (λ ks flow i t. safe_not_suspended ks q q flow refl t)
        (passes_caught base q (λ v dynamic again. execute_branch p go v dynamic arms (execute_else_with p go v other again)) refl
        (λ ks v dynamic again t knows m. safe_execute_branch ks q v dynamic arms (execute_else_with p go v other again) refl refl (first_of (well_branches fr q arms) _ rest) two.0 t knows
        (λ js e. safe_execute_else_with js q v other again refl refl (second_of (well_branches fr q arms) _ rest) two.1 (type_later w e v ob_type t) (λ hs i. m hs (extends_trans e i))))))
    safe_execute base at (Return value) h s = safe_then (safe_value_of base at value f.result (second_of (not f.iter) _ h) s) (λ ks v i t. safe_pure (Returning v) (λ js j. (not_true f.iter (first_of (not f.iter) _ h), type_if_later w j f.result v t)))
    safe_execute base at (Yield value) h s =
        let rest = second_of f.iter _ h in
        safe_then (safe_value_of base at value f.result (second_of (not at.protected) _ rest) s) (λ ks v i t. safe_pure (Yielding v Finished) (λ js j. (first_of f.iter _ h, not_true at.protected (first_of (not at.protected) _ rest), type_if_later w j f.result v t, tt)))
    safe_execute base at Quit h s = safe_pure Quitting (λ ks i. (first_of f.iter _ h, not_true at.protected (second_of f.iter _ h)))
    safe_execute base at (Raise e pos) h s = safe_then (safe_goes base at ob_type e h s) (λ ks v i t. safe_raised ks at pos v t)
    safe_execute base at (Fault kind pos) h s = safe_fault k.well p kind pos

    pub safe_execute_all : (base : List ObjectType) (at : TypingContext) (list : Stmts) → well_stmts fr at list ≡ true → AreBoundTypes w l (stmts_sites fr at list) → Runs base at (execute_all p go list)
    safe_execute_all base at no_stmts h s = safe_pure Done (λ ks i. tt)
    safe_execute_all base at (stmt a more) h s =
        let sites = each_split (λ st. l.bound_at st.0 ≡ Some st.1) (stmt_sites fr at a) (stmts_sites fr at more) s in
        safe_followed base at (execute p go a) (all_of more) (execute_all p go more) (all_left k l at more (record { are = second_of (well_stmt fr at a) _ h; sites = sites.1 }))
        (safe_execute base at a (first_of (well_stmt fr at a) _ h) sites.0) (λ ks. safe_execute_all ks at more (second_of (well_stmt fr at a) _ h) sites.1)

    pub safe_execute_first : (base : List ObjectType) (at : TypingContext) (tests : Tests) (other : Eval Completion) → well_tests fr at tests ≡ true → AreBoundTypes w l (tests_sites fr at tests) → ((ks : List ObjectType) → Runs ks at other) → Runs base at (execute_first p go tests other)
    safe_execute_first base at no_tests other h s m = m base
    safe_execute_first base at (branch tests body more) other h s m =
        let rest = second_of (are_tests fr at tests) _ h in
        let one = each_split (λ st. l.bound_at st.0 ≡ Some st.1) (exprs_sites fr at tests) (stmts_sites fr at body ++ tests_sites fr at more) s in
        let two = each_split (λ st. l.bound_at st.0 ≡ Some st.1) (stmts_sites fr at body) (tests_sites fr at more) one.1 in
        safe_then (safe_tests base at tests (first_of (are_tests fr at tests) _ h) one.0)
        (λ ks b i t. safe_if b (λ y. safe_execute_all ks at body (first_of (well_stmts fr at body) _ rest) two.0) (λ y. safe_execute_first ks at more other (second_of (well_stmts fr at body) _ rest) two.1 m))

    pub safe_execute_case : (base : List ObjectType) (at : TypingContext) (tested : ℕ) (v : Value) (dynamic : Option ℕ) (arms : Arms) (other : Eval Completion) → well_cases fr at (Some tested) arms ≡ true → AreBoundTypes w l (cases_sites fr at arms) → HasType w base v tested → Knows base tested v dynamic → ((ks : List ObjectType) → Runs ks at other) → Runs base at (execute_case p go v dynamic arms other)
    safe_execute_case base at tested v dynamic no_arms other h s t d m = m base
    safe_execute_case base at tested v dynamic (arm ty var body more) other h s t d m =
        let sites = each_split (λ st. l.bound_at st.0 ≡ Some st.1) (stmts_sites fr at body) (cases_sites fr at more) s in
        let rest = second_of (is_branch_variable fr tested ty var) _ h in
        safe_if (takes p ty dynamic)
        (λ y. let own = takes_is ty dynamic y in
        let both = d own.0 own.1 in
        safe_before (safe_write k.well var (narrowed fr tested ty) (statements.narrow p ty v) (branch_variable tested ty var (slice_get f.vars var) refl (first_of (is_branch_variable fr tested ty var) _ h)) (safe_case_value base ty own.0 tested v own.2 both.0 both.1 t both.2))
        (λ ks i. safe_execute_all ks at body (first_of (well_stmts fr at body) _ rest) sites.0))
        (λ y. safe_execute_case base at tested v dynamic more other (second_of (well_stmts fr at body) _ rest) sites.1 t d m)

    pub safe_execute_else : (base : List ObjectType) (at : TypingContext) (other : Else) (none : Eval Completion) → well_else fr at other ≡ true → AreBoundTypes w l (else_sites fr at other) → ((ks : List ObjectType) → Runs ks at none) → Runs base at (execute_else p go other none)
    safe_execute_else base at no_else none h s m = m base
    safe_execute_else base at (otherwise body) none h s m = safe_execute_all base at body h s

    pub safe_execute_branch : (base : List ObjectType) (at : TypingContext) (v : Value) (dynamic : Option ℕ) (arms : Arms) (other : Eval Completion) → at.protected ≡ true → at.guarded ≡ true → well_branches fr at arms ≡ true → AreBoundTypes w l (branches_sites fr at arms) → HasType w base v ob_type → Knows base ob_type v dynamic → ((ks : List ObjectType) → HeapExtends base ks → Runs ks at other) → Runs base at (execute_branch p go v dynamic arms other)
    safe_execute_branch base at v dynamic no_arms other a g h s t d m = m base (extends_refl base)
    safe_execute_branch base at v dynamic (arm ty var body more) other a g h s t d m =
        let sites = each_split (λ st. l.bound_at st.0 ≡ Some st.1) (stmts_sites fr (in_branch ty at) body) (branches_sites fr at more) s in
        let rest = second_of (is_type w ty) _ h in
        safe_if (takes p ty dynamic)
        (λ y. let own = takes_is ty dynamic y in
        let all = d own.0 own.1 in
        safe_with_exception base at ty (statements.narrow p ty v) (execute_all p go body) a g
        (subst (λ b. HasType w base (if b then unboxed v else v) ty) (sym (k.immutable_is ty)) (to_branch base ty own.0 ob_type v (is_immutable w ty) refl ob_loose own.2 all.1 all.2))
        (λ ks. safe_execute_all ks (in_branch ty at) body (first_of (well_stmts fr (in_branch ty at) body) _ rest) sites.0))
        (λ y. safe_execute_branch base at v dynamic more other a g (second_of (well_stmts fr (in_branch ty at) body) _ rest) sites.1 t d m)

    pub safe_execute_else_with : (base : List ObjectType) (at : TypingContext) (v : Value) (other : Else) (again : Eval Completion) → at.protected ≡ true → at.guarded ≡ true → well_else fr (in_branch ob_type at) other ≡ true → AreBoundTypes w l (else_sites fr (in_branch ob_type at) other) → HasType w base v ob_type → ((ks : List ObjectType) → HeapExtends base ks → Runs ks at again) → Runs base at (execute_else_with p go v other again)
    safe_execute_else_with base at v no_else again a g h s t m = m base (extends_refl base)
    safe_execute_else_with base at v (otherwise body) again a g h s t m =
        safe_with_exception base at ob_type v (execute_all p go body) a g t (λ ks. safe_execute_all ks (in_branch ob_type at) body h s)

  -- ---- continuations of statements

  pub safe_left : (base : List ObjectType) (at : TypingContext) (r : Continuation) → ContinuationWell w l at r → Runs base at (resume_at p go r)
  safe_left base at Finished h = safe_pure Done (λ ks i. tt)
  safe_left base at (Then a rest) h = safe_followed base at (execute p go a) rest (resume_at p go rest) h.1 (safe_execute base at a h.0.is h.0.sites) (λ ks. safe_left ks at rest h.1)
  safe_left base at (InLoop loop body within rest) h =
      safe_followed base at (run_loop p go loop body (resume_at p go within)) rest (resume_at p go rest) h.3
      (safe_looped base at loop body (resume_at p go within) (record { numbered = h.0; body_well = h.1 }) (λ ks. safe_left ks (in_loop loop at) within h.2)) (λ ks. safe_left ks at rest h.3)
