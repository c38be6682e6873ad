-- Expressions and statements without a protect agree.
use Rattle.std.proofs.Common.{◌≡◌, ℕ, zero, suc, Bool, List, [], map, Option, Some, None, sym, ap, subst}
use Rattle.std.specs.Prelude.{slice_get}
use Rattle.sa_ast.specs.declared.fault_kind.FaultKind.TheVariants as fault_kind
use Rattle.sa_ast.specs.declared.pos.Pos.{Pos}
use Rattle.sa_ast.specs.declared.ty.Mode.{Mode}
use Rattle.sa_typed.specs.declared.feature.TypedCallee.{TypedCallee}
use Rattle.sa_typed.specs.declared.feature.TypedCallee.TheVariants as called
use Rattle.sa_typed.specs.Tree as tree
use Rattle.sa_typed.specs.Tree.{Expr, VoidValue, SelfRef, Var, Exception, IsVoid, New, NewArray, Array, Call, IterCall, Bind, Reversed, And, Or, Box, Exprs, no_exprs, expr, Arg, Variable, Open, Args, no_args, arg}
use Rattle.sa_typed.specs.Tree.{Exit, Break, While, Until, Stmt, Assign, ExprStmt, If, Loop, ExitLoop, TypeCase, Protect, Return, Yield, Quit, Raise, Fault, Stmts, no_stmts, stmt, Tests, no_tests, branch, Arms, no_arms, arm, Else, no_else, otherwise}
use Rattle.sa_semantics.specs.Value.{Value}
use Rattle.sa_semantics.specs.Program.{Program, Feature, before, void_of}
use Rattle.sa_semantics.specs.Protects.{IsUnguarded, AreUnguarded, TestsUnguarded, ArmsUnguarded, ElseUnguarded, HasNoProtect}
use Rattle.sa_semantics.specs.Sequence.{resolve_outcome, resolve, pure, stop, Abrupt}
use Rattle.sa_semantics.specs.State.{Continuation, Finished, Then, InLoop, append, SiteInstances, Instance, Raised, Failed, Completion, Done, Yielding, Returning, Quitting}
use Rattle.sa_semantics.specs.Steps.{Eval, plain}
use Rattle.sa_semantics.specs.Calls.{ResolvedCall}
use Rattle.sa_semantics.specs.Instances.{CallSite}
use Rattle.sa_semantics.specs.Evaluation.{new_object, array_of, bound_value, bound_values, bound, call_site, this_site, iter_call, evaluate, evaluate_all, evaluate_args, evaluate_arg, evaluate_tests}
use Rattle.sa_semantics.specs.Statements.{after_statement, run_then, while_true, until_true, takes, raise_value, round, after_round, out_of_round, value_of, test_of, leave_loop, execute, execute_all, execute_first, execute_case, execute_else, resume_at, run_to}
use Rattle.sa_semantics.proofs.Agree.{RestUnguarded, FoundUnguarded, FlowUnguarded, Fits, both_broke, both_raised, parted, both_failed, both_in_fault, Meet, halt, exhaust, AgreeIn, agree, Agree, Passes, meets, agree_resolve, agree_knowing, agree_then, agree_before, agree_looking, agree_if, agree_turn, agree_pure_that, agree_pure, agree_stop, agree_stuck, agree_look, agree_or_stuck}
use Rattle.sa_semantics.proofs.AgreeSteps.{same_void, agree_charge, agree_add_object, agree_add_same, agree_fault, agree_read, agree_write}
use Rattle.sa_semantics.proofs.AgreeBuiltin.{agree_new_array}
use Rattle.sa_semantics.proofs.AgreeCalls.{AgreeFrom, all_unguarded, found_unguarded, ends_loop, ended_fits, agree_dynamic_type, agree_widened_from, agree_widened_arguments, agree_callee, agree_handed, agree_this_feature, agree_clear_loop, agree_end_loop, agree_reached, agree_call, agree_start, agree_resume}

module _ (p : Program) (at : Pos) where
  agree_new_object : {feature : Option ℕ} (ty : ℕ) → Agree feature (new_object p at ty) (new_object (before p) at ty)
  agree_new_object ty =
      agree_then (agree_or_stuck _) (λ t. agree_before (agree_charge at _) (agree_then (agree_add_same _ _ (ap (λ voids. plain ty (map voids t.attrs) []) (same_void p))) (λ number. agree_pure _)))

  agree_array_of : {feature : Option ℕ} (ty : ℕ) (elements : List Value) → Agree feature (array_of p at ty elements) (array_of (before p) at ty elements)
  agree_array_of ty elements =
      agree_then (agree_or_stuck _) (λ t. agree_before (agree_charge at _) (agree_then (agree_add_same _ _ (ap (λ voids. plain ty (map voids t.attrs) elements) (same_void p))) (λ number. agree_pure _)))

  agree_bound_value : {feature : Option ℕ} (ty : ℕ) (c : ResolvedCall) (given : List (Option Value)) → Agree feature (bound_value p at ty c given) (bound_value (before p) at ty c given)
  agree_bound_value ty c given =
      agree_then (agree_or_stuck _) (λ class. agree_before (agree_charge at _) (agree_then (agree_add_object _) (λ number. agree_pure _)))

  agree_kept_values : {feature : Option ℕ} (called : TypedCallee) (c : ResolvedCall) (given : List (Option Value)) → Agree feature (bound_values p at called c given) (bound_values (before p) at called c given)
  agree_kept_values (called.Static target class) c given = agree_pure _
  agree_kept_values (called.Dispatch k) c given = agree_widened_arguments p at c.class c.target given
  agree_kept_values called.Bound c given = agree_stuck

  agree_bound : {feature : Option ℕ} (called : TypedCallee) (ty : ℕ) (v : Value) (given : List (Option Value)) → Agree feature (bound p at called ty v given) (bound (before p) at called ty v given)
  agree_bound called ty v given = agree_then (agree_callee p at called v) (λ c. agree_then (agree_kept_values called c given) (λ kept. agree_bound_value ty c kept))

agree_void_of : {feature : Option ℕ} (p : Program) (ty : ℕ) → Agree feature (pure (void_of p ty)) (pure (void_of (before p) ty))
agree_void_of {feature} p ty = subst (λ voids. Agree feature (pure (void_of p ty)) (pure (voids ty))) (sym (same_void p)) (agree_pure _)

-- ---- statements by their ends

-- of the running feature k
abbrev pub AgreeFlow : ℕ → Eval Completion → Eval Completion → Type 0
AgreeFlow k f g = AgreeIn (Some k) (Some k) Completion FlowUnguarded f g

joined_unguarded : (r rest : Continuation) → RestUnguarded r → RestUnguarded rest → RestUnguarded (append r rest)
joined_unguarded Finished rest u w = w
joined_unguarded (Then a r) rest u w = (u.0, joined_unguarded r rest u.1 w)
joined_unguarded (InLoop loop body inner r) rest u w = (u.0, u.1, joined_unguarded r rest u.2 w)

agree_followed : {k : ℕ} {f g h i : Eval Completion} (rest : Continuation) → RestUnguarded rest → AgreeFlow k f g → AgreeFlow k h i → AgreeFlow k (run_then f rest h) (run_then g rest i)
agree_followed {k = k} {h = h} {i = i} rest u a b = agree_knowing a after
  where
    after : (flow : Completion) → FlowUnguarded flow → AgreeFlow k (after_statement rest h flow) (after_statement rest i flow)
    after Done w = b
    after (Yielding v r) w = agree_pure_that _ (joined_unguarded r rest w u)
    after (Returning v) w = agree_pure_that _ tt
    after Quitting w = agree_pure_that _ tt

agree_while_true : {k : ℕ} (b : Bool) → AgreeFlow k (while_true b) (while_true b)
agree_while_true b = agree_if b (agree_pure_that _ tt) (agree_stop _)

agree_until_true : {k : ℕ} (b : Bool) → AgreeFlow k (until_true b) (until_true b)
agree_until_true b = agree_if b (agree_stop _) (agree_pure_that _ tt)

agree_raised : {k : ℕ} (p : Program) (at : Pos) (v : Value) → AgreeFlow k (raise_value p at v) (raise_value (before p) at v)
agree_raised p at v = agree_if _ (agree_fault Completion p fault_kind.Void at) (agree_stop _)

-- ---- expressions

module _ (p : Program) (none : HasNoProtect p) (go to : Continuation → Eval Completion) (alike : AgreeFrom p go to) where
  module _ (site : ℕ) (at : Pos) where
    agree_station : {feature : Option ℕ} → AgreeIn feature feature CallSite (λ here. Fits feature here.caller) (call_site p go site at) (call_site (before p) to site at)
    agree_station = agree_looking _ _ (λ s e. agree_then (agree_or_stuck _) (λ feature. agree_pure_that _ e))

    agree_this_site : {feature : Option ℕ} → Agree feature (this_site p go site at) (this_site (before p) to site at)
    agree_this_site = agree_then agree_this_feature (λ k. agree_then (agree_or_stuck _) (λ f. agree_or_stuck _))

    agree_iter_call : {feature : Option ℕ} (self self' : Eval Value) (once once' others others' : Eval (List (Option Value))) (back : List (Option ℕ)) → Agree feature self self' → Agree feature once once' → Agree feature others others' → (o : Option (Instance × SiteInstances)) → FoundUnguarded o → Agree feature (iter_call p go site at self once others back o) (iter_call (before p) to site at self' once' others' back o)
    agree_iter_call {feature} self self' once once' others others' back a b c None u =
        agree_then a (λ v. agree_then b (λ first. agree_then c (λ second. agree_then agree_this_site (λ s. agree_then (agree_callee p at _ v) (λ e. agree_then (agree_handed p at _ e _ back) (λ h.
        agree_knowing agree_station (λ here fits. agree_start p none go to alike feature here fits e h)))))))
    agree_iter_call {feature} self self' once once' others others' back a b c (Some e) u =
        agree_then c (λ given. agree_then agree_this_site (λ s. agree_then (agree_handed p at _ _ given back) (λ h.
        agree_knowing agree_station (λ here fits. agree_resume p none go to alike feature here fits e.0 u.0 e.1 u.1 h))))

  mutual
    pub agree_evaluate : {feature : Option ℕ} (e : Expr) → Agree feature (evaluate p go e) (evaluate (before p) to e)
    agree_evaluate (tree.Int z) = agree_pure _
    agree_evaluate (tree.Truth b) = agree_pure _
    agree_evaluate (tree.Char byte) = agree_pure _
    agree_evaluate (tree.Text bytes) = agree_pure _
    agree_evaluate (VoidValue ty) = agree_void_of p ty
    agree_evaluate SelfRef = agree_look _
    agree_evaluate (Var var) = agree_read var
    agree_evaluate Exception = agree_then (agree_look _) agree_or_stuck
    agree_evaluate (IsVoid of) = agree_then (agree_evaluate of) (λ v. agree_pure _)
    agree_evaluate (New ty at) = agree_new_object p at ty
    agree_evaluate (NewArray ty size at) = agree_then (agree_evaluate size) (λ v. agree_then (agree_or_stuck _) (λ count. agree_new_array p ty at count))
    agree_evaluate (Array ty elements at) = agree_then (agree_evaluate_all elements) (λ vs. agree_array_of p at ty vs)
    agree_evaluate (Call called on arguments at) =
        agree_then (agree_evaluate on) (λ v. agree_then (agree_evaluate_args _ arguments) (λ given. agree_call p none go to alike at called v given _))
    agree_evaluate (IterCall site on arguments at) =
        agree_looking _ _ (λ s fits. agree_iter_call site at _ _ _ _ _ _ _ (agree_evaluate on) (agree_evaluate_args _ arguments) (agree_evaluate_args _ arguments) _ (found_unguarded site s.here.sites fits.1))
    agree_evaluate (Bind called on arguments ty at) =
        agree_then (agree_evaluate on) (λ v. agree_then (agree_evaluate_args _ arguments) (λ given. agree_bound p at called ty v given))
    agree_evaluate (Reversed target first second at) =
        agree_then (agree_evaluate first) (λ v. agree_then (agree_evaluate second) (λ self. agree_then (agree_reached p none go to alike at target None self _) (λ r. agree_pure _)))
    agree_evaluate (And first second) =
        agree_then (agree_then (agree_evaluate first) (λ v. agree_or_stuck _)) (λ b. agree_if b (agree_evaluate second) (agree_pure _))
    agree_evaluate (Or first second) =
        agree_then (agree_then (agree_evaluate first) (λ v. agree_or_stuck _)) (λ b. agree_if b (agree_pure _) (agree_evaluate second))
    agree_evaluate (Box ty of at) = agree_then (agree_evaluate of) (λ v. agree_widened_from p at ty v)

    agree_evaluate_all : {feature : Option ℕ} (es : Exprs) → Agree feature (evaluate_all p go es) (evaluate_all (before p) to es)
    agree_evaluate_all no_exprs = agree_pure _
    agree_evaluate_all (expr e more) = agree_then (agree_evaluate e) (λ v. agree_then (agree_evaluate_all more) (λ vs. agree_pure _))

    agree_evaluate_args : {feature : Option ℕ} (test : Mode → Bool) (arguments : Args) → Agree feature (evaluate_args p go test arguments) (evaluate_args (before p) to test arguments)
    agree_evaluate_args test no_args = agree_pure _
    agree_evaluate_args test (arg a more) = agree_then (agree_evaluate_arg test a) (λ v. agree_then (agree_evaluate_args test more) (λ vs. agree_pure _))

    agree_evaluate_arg : {feature : Option ℕ} (test : Mode → Bool) (a : Arg) → Agree feature (evaluate_arg p go test a) (evaluate_arg (before p) to test a)
    agree_evaluate_arg test (tree.Value mode e) = agree_if _ (agree_then (agree_evaluate e) (λ v. agree_pure _)) (agree_pure _)
    agree_evaluate_arg test (Variable mode var) = agree_if _ (agree_if _ (agree_then (agree_read var) (λ v. agree_pure _)) (agree_pure _)) (agree_pure _)
    agree_evaluate_arg test Open = agree_pure _

  agree_evaluate_tests : {feature : Option ℕ} (es : Exprs) → Agree feature (evaluate_tests p go es) (evaluate_tests (before p) to es)
  agree_evaluate_tests no_exprs = agree_pure _
  agree_evaluate_tests (expr e more) =
      agree_then (agree_then (agree_evaluate e) (λ v. agree_or_stuck _)) (λ b. agree_if b (agree_pure _) (agree_evaluate_tests more))

  agree_value_of : {feature : Option ℕ} (e : Option Expr) → Agree feature (value_of p go e) (value_of (before p) to e)
  agree_value_of None = agree_pure _
  agree_value_of (Some e) = agree_evaluate e

  agree_test_of : {feature : Option ℕ} (e : Expr) → Agree feature (test_of p go e) (test_of (before p) to e)
  agree_test_of e = agree_then (agree_evaluate e) (λ v. agree_or_stuck _)

  -- ---- rounds of loops, and statements, in the feature k of the program

  module _ (k : ℕ) (f : Feature) (is : slice_get p.features k ≡ Some f) where
    agree_round : (loop : ℕ) (body : Stmts) → AreUnguarded body → AgreeFlow k (round p go loop body) (round (before p) to loop body)
    agree_round loop body u = agree_turn (alike k f is _ (u, all_unguarded body u, tt))

    agree_after_round : (loop : ℕ) (body : Stmts) → AreUnguarded body → (flow : Completion) → FlowUnguarded flow → AgreeFlow k (after_round p go loop body flow) (after_round (before p) to loop body flow)
    agree_after_round loop body u Done w = agree_round loop body u
    agree_after_round loop body u (Yielding v r) w = agree_pure_that _ (u, w, tt)
    agree_after_round loop body u (Returning v) w = agree_before (agree_end_loop p loop) (agree_pure_that _ tt)
    agree_after_round loop body u Quitting w = agree_before (agree_end_loop p loop) (agree_pure_that _ tt)

    -- A raised fault ends the instances of the loop, which the stop of the program doesn't.
    passes_out_of_round : (loop : ℕ) → Passes (Some k) (Some k) FlowUnguarded (out_of_round p go loop) (out_of_round (before p) to loop)
    unfolding resolve
    passes_out_of_round loop c d s t (both_broke u e) = meets (agree_before (agree_end_loop p loop) (agree_pure_that {P = FlowUnguarded} Done tt)) u e
    passes_out_of_round loop c d s t (both_raised v kind at u e) = meets (agree_before (agree_end_loop p loop) (agree_stop {A = Completion} {P = FlowUnguarded} (Raised v kind at))) u e
    passes_out_of_round loop c d s t (parted v kind at u w e same) =
        subst (λ o. Meet (Some k) Completion FlowUnguarded (resolve_outcome o (λ _. stop (Raised v kind at)) stop) (Abrupt (Failed kind at) w)) (sym (ends_loop p k f is loop u e.0)) (halt _ _ _ _ (parted v kind at _ w (ended_fits k f.sites loop u e) same))
    passes_out_of_round loop c d s t (both_failed kind at u) = halt _ _ _ _ (both_failed kind at u)
    passes_out_of_round loop c d s t (both_in_fault u) = halt _ _ _ _ (both_in_fault u)

    agree_leave_loop : (exit : Exit) → AgreeFlow k (leave_loop p go exit) (leave_loop (before p) to exit)
    agree_leave_loop Break = agree_stop _
    agree_leave_loop (While test) = agree_then (agree_test_of test) (λ b. agree_while_true b)
    agree_leave_loop (Until test) = agree_then (agree_test_of test) (λ b. agree_until_true b)

    mutual
      agree_execute : (a : Stmt) → IsUnguarded a → AgreeFlow k (execute p go a) (execute (before p) to a)
      agree_execute (Assign var e) u = agree_before (agree_then (agree_evaluate e) (λ v. agree_write var v)) (agree_pure_that _ tt)
      agree_execute (ExprStmt e) u = agree_before (agree_evaluate e) (agree_pure_that _ tt)
      agree_execute (If tests other) u = agree_execute_first tests u.0 (agree_execute_all other u.1)
      agree_execute (Loop loop body) u = agree_before (agree_clear_loop p loop) (agree_round loop body u)
      agree_execute (ExitLoop exit) u = agree_leave_loop exit
      agree_execute (TypeCase var arms other at) u =
          agree_then (agree_read var) (λ v. agree_then (agree_dynamic_type v) (λ dynamic. agree_execute_case v dynamic arms u.0 (agree_execute_else other u.1 (agree_fault Completion p fault_kind.NoBranch at))))
      agree_execute (Protect body arms other) u = absurd u
      agree_execute (Return value) u = agree_then (agree_value_of value) (λ v. agree_pure_that _ tt)
      agree_execute (Yield value) u = agree_then (agree_value_of value) (λ v. agree_pure_that _ tt)
      agree_execute Quit u = agree_pure_that _ tt
      agree_execute (Raise e at) u = agree_then (agree_evaluate e) (λ v. agree_raised p at v)
      agree_execute (Fault kind at) u = agree_fault Completion p kind at

      agree_execute_all : (list : Stmts) → AreUnguarded list → AgreeFlow k (execute_all p go list) (execute_all (before p) to list)
      agree_execute_all no_stmts u = agree_pure_that _ tt
      agree_execute_all (stmt a more) u = agree_followed _ (all_unguarded more u.1) (agree_execute a u.0) (agree_execute_all more u.1)

      agree_execute_first : (tests : Tests) → TestsUnguarded tests → {g h : Eval Completion} → AgreeFlow k g h → AgreeFlow k (execute_first p go tests g) (execute_first (before p) to tests h)
      agree_execute_first no_tests u e = e
      agree_execute_first (branch tests body more) u e = agree_then (agree_evaluate_tests tests) (λ b. agree_if b (agree_execute_all body u.0) (agree_execute_first more u.1 e))

      agree_execute_case : (v : Value) (dynamic : Option ℕ) (arms : Arms) → ArmsUnguarded arms → {g h : Eval Completion} → AgreeFlow k g h → AgreeFlow k (execute_case p go v dynamic arms g) (execute_case (before p) to v dynamic arms h)
      agree_execute_case v dynamic no_arms u e = e
      agree_execute_case v dynamic (arm ty var body more) u e =
          agree_if (takes p ty dynamic) (agree_before (agree_write var _) (agree_execute_all body u.0)) (agree_execute_case v dynamic more u.1 e)

      agree_execute_else : (other : Else) → ElseUnguarded other → {g h : Eval Completion} → AgreeFlow k g h → AgreeFlow k (execute_else p go other g) (execute_else (before p) to other h)
      agree_execute_else no_else u e = e
      agree_execute_else (otherwise body) u e = agree_execute_all body u

    agree_left : (r : Continuation) → RestUnguarded r → AgreeFlow k (resume_at p go r) (resume_at (before p) to r)
    agree_left Finished u = agree_pure_that _ tt
    agree_left (Then a rest) u = agree_followed _ u.1 (agree_execute a u.0) (agree_left rest u.1)
    agree_left (InLoop loop body inner rest) u =
        agree_followed _ u.2 (agree_resolve (agree_left inner u.1) (agree_after_round loop body u.0) (passes_out_of_round loop)) (agree_left rest u.2)

pub agree_run_to : (level : ℕ) (p : Program) → HasNoProtect p → AgreeFrom p (run_to p level) (run_to (before p) level)
agree_run_to zero p none k f is r u = agree (λ s e. exhaust s)
agree_run_to (suc level) p none k f is r u = agree_left p none (run_to p level) (run_to (before p) level) (agree_run_to level p none) k f is r u
