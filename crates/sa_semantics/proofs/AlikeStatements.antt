-- Expressions and statements, of which one runs to a level what turns begin, and the other to a greater one.
use Rattle.std.proofs.Common.{◌≡◌, ℕ, zero, suc, ◌+◌, Bool, List, Option, Some, None, refl, subst, arith}
use Rattle.sa_ast.specs.declared.fault_kind.FaultKind.TheVariants as fault_kind
use Rattle.sa_ast.specs.declared.pos.Pos.{Pos}
use Rattle.sa_ast.specs.declared.ty.Mode.{Mode}
use Rattle.sa_typed.specs.declared.feature.TypedCallee.{TypedCallee}
use Rattle.sa_typed.specs.declared.feature.TypedCallee.TheVariants as called
use Rattle.sa_typed.specs.Tree as tree
use Rattle.sa_typed.specs.Tree.{Expr, VoidValue, SelfRef, Var, Exception, IsVoid, New, NewArray, Array, Call, IterCall, Bind, Reversed, And, Or, Box, Exprs, no_exprs, expr, Arg, Variable, Open, Args, no_args, arg}
use Rattle.sa_typed.specs.Tree.{Exit, Break, While, Until, Stmt, Assign, ExprStmt, If, Loop, ExitLoop, TypeCase, Protect, Return, Yield, Quit, Raise, Fault, Stmts, no_stmts, stmt, Tests, no_tests, branch, Arms, no_arms, arm, Else, no_else, otherwise}
use Rattle.sa_semantics.specs.Value.{Value}
use Rattle.sa_semantics.specs.Program.{Program}
use Rattle.sa_semantics.specs.State.{Continuation, Finished, Then, InLoop, SiteInstances, Instance, AbruptCause, Broke, Raised, Failed, InputFailed, Completion, Done, Yielding, Returning, Quitting}
use Rattle.sa_semantics.specs.Steps.{Eval}
use Rattle.sa_semantics.specs.Calls.{ResolvedCall}
use Rattle.sa_semantics.specs.Evaluation.{new_object, array_of, bound_value, bound_values, bound, call_site, this_site, iter_call, evaluate, evaluate_all, evaluate_args, evaluate_arg, evaluate_tests}
use Rattle.sa_semantics.specs.Statements.{after_statement, run_then, set_exception, with_exception, not_suspended, catch, while_true, until_true, takes, raise_value, round, after_round, out_of_round, value_of, test_of, leave_loop, execute, execute_all, execute_first, execute_case, execute_branch, execute_else, execute_else_with, resume_at, run_to}
use Rattle.sa_semantics.proofs.Alike.{ends, ends_first, Alike, Steady, alike_resolve, alike_then, alike_before, alike_if, turns, steady_pure, steady_stop, steady_look, steady_change, steady_or_stuck, steady_stuck}
use Rattle.sa_semantics.proofs.SteadySteps.{steady_charge, steady_add_object, steady_fault, steady_read, steady_write}
use Rattle.sa_semantics.proofs.SteadyBuiltin.{steady_new_array}
use Rattle.sa_semantics.proofs.AlikeCalls.{steady_dynamic_type, steady_widened_from, steady_widened_where, steady_callee, steady_handed, steady_this_feature, steady_clear_loop, steady_end_loop, alike_reached, alike_call, alike_start, alike_resume}

module _ (p : Program) (at : Pos) where
  steady_new_object : {level : ℕ} (ty : ℕ) → Steady level (new_object p at ty)
  steady_new_object ty = alike_then (steady_or_stuck _) (λ t. alike_before (steady_charge at _) (alike_then (steady_add_object _) (λ number. steady_pure _)))

  steady_array_of : {level : ℕ} (ty : ℕ) (elements : List Value) → Steady level (array_of p at ty elements)
  steady_array_of ty elements = alike_then (steady_or_stuck _) (λ t. alike_before (steady_charge at _) (alike_then (steady_add_object _) (λ number. steady_pure _)))

  steady_bound_value : {level : ℕ} (ty : ℕ) (c : ResolvedCall) (given : List (Option Value)) → Steady level (bound_value p at ty c given)
  steady_bound_value ty c given =
      alike_then (steady_or_stuck _) (λ class. alike_before (steady_charge at _) (alike_then (steady_add_object _) (λ number. steady_pure _)))

  steady_kept_values : {level : ℕ} (called : TypedCallee) (c : ResolvedCall) (given : List (Option Value)) → Steady level (bound_values p at called c given)
  steady_kept_values (called.Static target class) c given = steady_pure _
  steady_kept_values (called.Dispatch k) c given = steady_widened_where p at _ _
  steady_kept_values called.Bound c given = steady_stuck

  steady_bound : {level : ℕ} (called : TypedCallee) (ty : ℕ) (v : Value) (given : List (Option Value)) → Steady level (bound p at called ty v given)
  steady_bound called ty v given = alike_then (steady_callee p at called v) (λ c. alike_then (steady_kept_values called c given) (λ kept. steady_bound_value ty c kept))

-- ---- statements by their ends

alike_followed : {level : ℕ} {f g h i : Eval Completion} (rest : Continuation) → Alike level f g → Alike level h i → Alike level (run_then f rest h) (run_then g rest i)
alike_followed {level = level} {h = h} {i = i} rest a b = alike_then a after
  where
    after : (flow : Completion) → Alike level (after_statement rest h flow) (after_statement rest i flow)
    after Done = b
    after (Yielding v r) = steady_pure _
    after (Returning v) = steady_pure _
    after Quitting = steady_pure _

steady_not_suspended : {level : ℕ} (flow : Completion) → Steady level (not_suspended flow)
steady_not_suspended Done = steady_pure _
steady_not_suspended (Yielding v r) = steady_stuck
steady_not_suspended (Returning v) = steady_pure _
steady_not_suspended Quitting = steady_pure _

steady_set : {level : ℕ} (exception : Option Value) → Steady level (set_exception exception)
steady_set exception = steady_change _ (λ d s. refl) (λ s. refl) (λ s. refl)

alike_with_exception : {level : ℕ} (v : Value) {f g : Eval Completion} → Alike level f g → Alike level (with_exception v f) (with_exception v g)
alike_with_exception v e =
    alike_then (steady_look _ (λ d s. refl)) (λ before. alike_before (steady_set _) (alike_resolve e (λ flow. alike_before (steady_set before) (steady_not_suspended flow)) (λ cause. alike_before (steady_set before) (steady_stop cause))))

alike_caught : {level : ℕ} (f g : Value → Option ℕ → Eval Completion → Eval Completion) → ((v : Value) (ty : Option ℕ) (again : Eval Completion) → Steady level again → Alike level (f v ty again) (g v ty again)) → (cause : AbruptCause) → Alike level (catch f cause) (catch g cause)
alike_caught f g e (Raised v kind at) = alike_then (steady_dynamic_type v) (λ dynamic. e v dynamic _ (steady_stop _))
alike_caught f g e Broke = steady_stop _
alike_caught f g e (Failed kind at) = steady_stop _
alike_caught f g e InputFailed = steady_stop _

steady_while_true : {level : ℕ} (b : Bool) → Steady level (while_true b)
steady_while_true b = alike_if b (steady_pure _) (steady_stop _)

steady_until_true : {level : ℕ} (b : Bool) → Steady level (until_true b)
steady_until_true b = alike_if b (steady_stop _) (steady_pure _)

steady_raised : {level : ℕ} (p : Program) (at : Pos) (v : Value) → Steady level (raise_value p at v)
steady_raised p at v = alike_if _ (steady_fault Completion p fault_kind.Void at) (steady_stop _)

-- ---- what a turn begins

module _ (p : Program) (level : ℕ) (go to : Continuation → Eval Completion) (alike : (r : Continuation) → Alike level (go r) (to r)) where
  module _ (site : ℕ) (at : Pos) where
    steady_station : Alike (suc level) (call_site p go site at) (call_site p to site at)
    steady_station = alike_then (steady_look _ (λ d s. refl)) (λ caller. alike_then (steady_or_stuck _) (λ feature. steady_pure _))

    steady_this_site : Alike (suc level) (this_site p go site at) (this_site p to site at)
    steady_this_site = alike_then steady_this_feature (λ k. alike_then (steady_or_stuck _) (λ f. steady_or_stuck _))

    alike_iter_call : (self self' : Eval Value) (once once' others others' : Eval (List (Option Value))) (back : List (Option ℕ)) → Alike (suc level) self self' → Alike (suc level) once once' → Alike (suc level) others others' → (o : Option (Instance × SiteInstances)) → Alike (suc level) (iter_call p go site at self once others back o) (iter_call p to site at self' once' others' back o)
    alike_iter_call self self' once once' others others' back a b c None =
        alike_then a (λ v. alike_then b (λ first. alike_then c (λ second. alike_then steady_this_site (λ s. alike_then (steady_callee p at _ v) (λ e. alike_then (steady_handed p at _ e _ back) (λ h.
        alike_then steady_station (λ here. alike_start p level go to alike here e h)))))))
    alike_iter_call self self' once once' others others' back a b c (Some e) =
        alike_then c (λ given. alike_then steady_this_site (λ s. alike_then (steady_handed p at _ _ given back) (λ h.
        alike_then steady_station (λ here. alike_resume p level go to alike here e.0 e.1 h))))

  mutual
    pub alike_evaluate : (e : Expr) → Alike (suc level) (evaluate p go e) (evaluate p to e)
    alike_evaluate (tree.Int z) = steady_pure _
    alike_evaluate (tree.Truth b) = steady_pure _
    alike_evaluate (tree.Char byte) = steady_pure _
    alike_evaluate (tree.Text bytes) = steady_pure _
    alike_evaluate (VoidValue ty) = steady_pure _
    alike_evaluate SelfRef = steady_look _ (λ d s. refl)
    alike_evaluate (Var var) = steady_read var
    alike_evaluate Exception = alike_then (steady_look _ (λ d s. refl)) steady_or_stuck
    alike_evaluate (IsVoid of) = alike_then (alike_evaluate of) (λ v. steady_pure _)
    alike_evaluate (New ty at) = steady_new_object p at ty
    alike_evaluate (NewArray ty size at) = alike_then (alike_evaluate size) (λ v. alike_then (steady_or_stuck _) (λ count. steady_new_array p ty at count))
    alike_evaluate (Array ty elements at) = alike_then (alike_evaluate_all elements) (λ vs. steady_array_of p at ty vs)
    alike_evaluate (Call called on arguments at) =
        alike_then (alike_evaluate on) (λ v. alike_then (alike_evaluate_args _ arguments) (λ given. alike_call p level go to alike at called v given _))
    alike_evaluate (IterCall site on arguments at) =
        alike_then (steady_look _ (λ d s. refl)) (λ sites. alike_iter_call site at _ _ _ _ _ _ _ (alike_evaluate on) (alike_evaluate_args _ arguments) (alike_evaluate_args _ arguments) _)
    alike_evaluate (Bind called on arguments ty at) =
        alike_then (alike_evaluate on) (λ v. alike_then (alike_evaluate_args _ arguments) (λ given. steady_bound p at called ty v given))
    alike_evaluate (Reversed target first second at) =
        alike_then (alike_evaluate first) (λ v. alike_then (alike_evaluate second) (λ self. alike_then (alike_reached p level go to alike at target None self _) (λ r. steady_pure _)))
    alike_evaluate (And first second) =
        alike_then (alike_then (alike_evaluate first) (λ v. steady_or_stuck _)) (λ b. alike_if b (alike_evaluate second) (steady_pure _))
    alike_evaluate (Or first second) =
        alike_then (alike_then (alike_evaluate first) (λ v. steady_or_stuck _)) (λ b. alike_if b (steady_pure _) (alike_evaluate second))
    alike_evaluate (Box ty of at) = alike_then (alike_evaluate of) (λ v. steady_widened_from p at ty v)

    alike_evaluate_all : (es : Exprs) → Alike (suc level) (evaluate_all p go es) (evaluate_all p to es)
    alike_evaluate_all no_exprs = steady_pure _
    alike_evaluate_all (expr e more) = alike_then (alike_evaluate e) (λ v. alike_then (alike_evaluate_all more) (λ vs. steady_pure _))

    alike_evaluate_args : (test : Mode → Bool) (arguments : Args) → Alike (suc level) (evaluate_args p go test arguments) (evaluate_args p to test arguments)
    alike_evaluate_args test no_args = steady_pure _
    alike_evaluate_args test (arg a more) = alike_then (alike_evaluate_arg test a) (λ v. alike_then (alike_evaluate_args test more) (λ vs. steady_pure _))

    alike_evaluate_arg : (test : Mode → Bool) (a : Arg) → Alike (suc level) (evaluate_arg p go test a) (evaluate_arg p to test a)
    alike_evaluate_arg test (tree.Value mode e) = alike_if _ (alike_then (alike_evaluate e) (λ v. steady_pure _)) (steady_pure _)
    alike_evaluate_arg test (Variable mode var) = alike_if _ (alike_if _ (alike_then (steady_read var) (λ v. steady_pure _)) (steady_pure _)) (steady_pure _)
    alike_evaluate_arg test Open = steady_pure _

  alike_evaluate_tests : (es : Exprs) → Alike (suc level) (evaluate_tests p go es) (evaluate_tests p to es)
  alike_evaluate_tests no_exprs = steady_pure _
  alike_evaluate_tests (expr e more) =
      alike_then (alike_then (alike_evaluate e) (λ v. steady_or_stuck _)) (λ b. alike_if b (steady_pure _) (alike_evaluate_tests more))

  alike_round : (loop : ℕ) (body : Stmts) → Alike (suc level) (round p go loop body) (round p to loop body)
  alike_round loop body = turns (alike _)

  alike_after_round : (loop : ℕ) (body : Stmts) (flow : Completion) → Alike (suc level) (after_round p go loop body flow) (after_round p to loop body flow)
  alike_after_round loop body Done = alike_round loop body
  alike_after_round loop body (Yielding v r) = steady_pure _
  alike_after_round loop body (Returning v) = alike_before (steady_end_loop p loop) (steady_pure _)
  alike_after_round loop body Quitting = alike_before (steady_end_loop p loop) (steady_pure _)

  alike_out_of_round : (loop : ℕ) (cause : AbruptCause) → Alike (suc level) (out_of_round p go loop cause) (out_of_round p to loop cause)
  alike_out_of_round loop Broke = alike_before (steady_end_loop p loop) (steady_pure _)
  alike_out_of_round loop (Raised v kind at) = alike_before (steady_end_loop p loop) (steady_stop _)
  alike_out_of_round loop (Failed kind at) = steady_stop _
  alike_out_of_round loop InputFailed = steady_stop _

  alike_value_of : (e : Option Expr) → Alike (suc level) (value_of p go e) (value_of p to e)
  alike_value_of None = steady_pure _
  alike_value_of (Some e) = alike_evaluate e

  alike_test_of : (e : Expr) → Alike (suc level) (test_of p go e) (test_of p to e)
  alike_test_of e = alike_then (alike_evaluate e) (λ v. steady_or_stuck _)

  alike_leave_loop : (exit : Exit) → Alike (suc level) (leave_loop p go exit) (leave_loop p to exit)
  alike_leave_loop Break = steady_stop _
  alike_leave_loop (While test) = alike_then (alike_test_of test) (λ b. steady_while_true b)
  alike_leave_loop (Until test) = alike_then (alike_test_of test) (λ b. steady_until_true b)

  mutual
    alike_execute : (a : Stmt) → Alike (suc level) (execute p go a) (execute p to a)
    alike_execute (Assign var e) = alike_before (alike_then (alike_evaluate e) (λ v. steady_write var v)) (steady_pure _)
    alike_execute (ExprStmt e) = alike_before (alike_evaluate e) (steady_pure _)
    alike_execute (If tests other) = alike_execute_first tests (alike_execute_all other)
    alike_execute (Loop loop body) = alike_before (steady_clear_loop p loop) (alike_round loop body)
    alike_execute (ExitLoop exit) = alike_leave_loop exit
    alike_execute (TypeCase var arms other at) =
        alike_then (steady_read var) (λ v. alike_then (steady_dynamic_type v) (λ dynamic. alike_execute_case v dynamic arms (alike_execute_else other (steady_fault Completion p fault_kind.NoBranch at))))
    alike_execute (Protect body arms other) =
        alike_resolve (alike_execute_all body) steady_not_suspended (alike_caught _ _ (λ v dynamic again e. alike_execute_branch v dynamic arms (alike_execute_else_with v other e)))
    alike_execute (Return value) = alike_then (alike_value_of value) (λ v. steady_pure _)
    alike_execute (Yield value) = alike_then (alike_value_of value) (λ v. steady_pure _)
    alike_execute Quit = steady_pure _
    alike_execute (Raise e at) = alike_then (alike_evaluate e) (λ v. steady_raised p at v)
    alike_execute (Fault kind at) = steady_fault Completion p kind at

    alike_execute_all : (list : Stmts) → Alike (suc level) (execute_all p go list) (execute_all p to list)
    alike_execute_all no_stmts = steady_pure _
    alike_execute_all (stmt a more) = alike_followed _ (alike_execute a) (alike_execute_all more)

    alike_execute_first : (tests : Tests) {f g : Eval Completion} → Alike (suc level) f g → Alike (suc level) (execute_first p go tests f) (execute_first p to tests g)
    alike_execute_first no_tests e = e
    alike_execute_first (branch tests body more) e = alike_then (alike_evaluate_tests tests) (λ b. alike_if b (alike_execute_all body) (alike_execute_first more e))

    alike_execute_case : (v : Value) (dynamic : Option ℕ) (arms : Arms) {f g : Eval Completion} → Alike (suc level) f g → Alike (suc level) (execute_case p go v dynamic arms f) (execute_case p to v dynamic arms g)
    alike_execute_case v dynamic no_arms e = e
    alike_execute_case v dynamic (arm ty var body more) e =
        alike_if (takes p ty dynamic) (alike_before (steady_write var _) (alike_execute_all body)) (alike_execute_case v dynamic more e)

    alike_execute_branch : (v : Value) (dynamic : Option ℕ) (arms : Arms) {f g : Eval Completion} → Alike (suc level) f g → Alike (suc level) (execute_branch p go v dynamic arms f) (execute_branch p to v dynamic arms g)
    alike_execute_branch v dynamic no_arms e = e
    alike_execute_branch v dynamic (arm ty var body more) e =
        alike_if (takes p ty dynamic) (alike_with_exception _ (alike_execute_all body)) (alike_execute_branch v dynamic more e)

    alike_execute_else : (other : Else) {f g : Eval Completion} → Alike (suc level) f g → Alike (suc level) (execute_else p go other f) (execute_else p to other g)
    alike_execute_else no_else e = e
    alike_execute_else (otherwise body) e = alike_execute_all body

    alike_execute_else_with : (v : Value) (other : Else) {f g : Eval Completion} → Alike (suc level) f g → Alike (suc level) (execute_else_with p go v other f) (execute_else_with p to v other g)
    alike_execute_else_with v no_else e = e
    alike_execute_else_with v (otherwise body) e = alike_with_exception v (alike_execute_all body)

  alike_left : (r : Continuation) → Alike (suc level) (resume_at p go r) (resume_at p to r)
  alike_left Finished = steady_pure _
  alike_left (Then a rest) = alike_followed _ (alike_execute a) (alike_left rest)
  alike_left (InLoop loop body inner rest) =
      alike_followed _ (alike_resolve (alike_left inner) (alike_after_round loop body) (alike_out_of_round loop)) (alike_left rest)

same_run_to : (level : ℕ) (p : Program) (r : Continuation) → Steady level (run_to p level r)
same_run_to zero p r = ends
same_run_to (suc level) p r = alike_left p level _ _ (same_run_to level p) r

pub alike_run_to : (n m : ℕ) (p : Program) (r : Continuation) → Alike n (run_to p n r) (run_to p (n + m) r)
alike_run_to zero m p r = ends_first (same_run_to (0 + m) p r)
alike_run_to (suc n) m p r =
    let e : suc (n + m) ≡ suc n + m = omega arith in
    subst (λ k. Alike (suc n) (run_to p (suc n) r) (run_to p k r)) e (alike_left p n _ _ (alike_run_to n m p) r)
