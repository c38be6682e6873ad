-- Calls and instances, of which one runs to a level what turns begin, and the other to a greater one.
use Rattle.std.proofs.Common.{ℕ, suc, Bool, List, [], ◌∷◌, Option, Some, None, refl}
use Rattle.sa_ast.specs.declared.fault_kind.FaultKind.TheVariants as fault_kind
use Rattle.sa_ast.specs.declared.pos.Pos.{Pos}
use Rattle.sa_typed.specs.declared.feature.TypedCallee.{TypedCallee}
use Rattle.sa_typed.specs.declared.feature.TypedCallee.TheVariants as called
use Rattle.sa_typed.specs.declared.feature.Target.{Target}
use Rattle.sa_typed.specs.declared.feature.Target.TheVariants as target
use Rattle.sa_typed.specs.declared.program.TypedImplementation.{TypedImplementation}
use Rattle.sa_semantics.specs.Value.{Value, Void, Int, Truth, Char, Text, Ref, Imm, Bound, Boxed}
use Rattle.sa_semantics.specs.Program.{Program, Feature}
use Rattle.sa_semantics.specs.State.{Continuation, SiteInstances, Empty, Instance, Activation, Event, Quits, Abandon, AbruptCause, Broke, Raised, Failed, InputFailed, Completion, Done, Yielding, Returning, Quitting}
use Rattle.sa_semantics.specs.Steps.{Eval}
use Rattle.sa_semantics.specs.Calls.{dynamic_type, box_value, boxed, boxed_if, boxed_from, boxed_where, boxed_for, boxed_back, ResolvedCall, PassedArgs, dispatch_to, dispatch, bound_to, callee, pass_args, copy_out, copy_back, copy_results, attribute, set_attribute, shared, set_shared, after_return, after_raise, enter_routine, routine, with_no_variables, reached, call}
use Rattle.sa_semantics.specs.Instances.{this_feature, clear_loop, end_loop, CallSite, instance_ends, after_suspend, raised_through, run_instance, add_instance, begin_instance, start_of, start, continue_instance, resume}
use Rattle.sa_semantics.proofs.Alike.{moves, Alike, Steady, alike_resolve, alike_then, alike_before, alike_if, turns, steady_pure, steady_stop, steady_look, steady_change, steady_or_stuck, steady_stuck, steady_with_place}
use Rattle.sa_semantics.proofs.SteadySteps.{steady_charge, steady_object_at, steady_set_object, steady_fault, steady_write, steady_enter, steady_leave, steady_checked_depth, steady_checked_live}
use Rattle.sa_semantics.proofs.SteadyBuiltin.{steady_builtin_call}

-- ---- boxing

pub steady_dynamic_type : {level : ℕ} (v : Value) → Steady level (dynamic_type v)
steady_dynamic_type v = steady_look _ (λ d s. refl)

steady_widen : {level : ℕ} (at : Pos) (attributes : ℕ) (v : Value) → Steady level (box_value at attributes v)
steady_widen at attributes v = alike_before (steady_charge at _) (steady_pure _)

steady_widened : {level : ℕ} (p : Program) (at : Pos) (v : Value) → Steady level (boxed p at v)
steady_widened p at (Int z) = steady_widen at 1 (Int z)
steady_widened p at (Truth b) = steady_widen at 1 (Truth b)
steady_widened p at (Char byte) = steady_widen at 1 (Char byte)
steady_widened p at (Imm ty _) = steady_widen at _ _
steady_widened p at Void = steady_pure _
steady_widened p at (Text bytes) = steady_pure _
steady_widened p at (Ref object) = steady_pure _
steady_widened p at (Bound object) = steady_pure _
steady_widened p at (Boxed v) = steady_pure _

steady_widened_if : {level : ℕ} (p : Program) (at : Pos) (wide : Bool) (v : Value) → Steady level (boxed_if p at wide v)
steady_widened_if p at wide v = alike_if wide (steady_widened p at v) (steady_pure v)

pub steady_widened_from : {level : ℕ} (p : Program) (at : Pos) (ty : ℕ) (v : Value) → Steady level (boxed_from p at ty v)
steady_widened_from p at ty v = alike_if _ (steady_widened p at v) steady_stuck

pub steady_widened_where : {level : ℕ} (p : Program) (at : Pos) (wide : List Bool) (given : List (Option Value)) → Steady level (boxed_where p at wide given)
steady_widened_where p at (wide ∷ more) (Some v ∷ rest) =
    alike_then (steady_widened_if p at wide v) (λ w. alike_then (steady_widened_where p at more rest) (λ ws. steady_pure _))
steady_widened_where p at (wide ∷ more) (None ∷ rest) = alike_then (steady_widened_where p at more rest) (λ ws. steady_pure _)
steady_widened_where p at (wide ∷ more) [] = steady_pure _
steady_widened_where p at [] rest = steady_pure _

-- ---- what is called, passed and copied out

module _ (p : Program) (at : Pos) where
  steady_dispatched_to : {level : ℕ} (impls : List TypedImplementation) (v : Value) (ty : Option ℕ) → Steady level (dispatch_to p at impls v ty)
  steady_dispatched_to impls v ty = alike_then (steady_or_stuck _) (λ class. alike_then (steady_or_stuck _) (λ impl. steady_pure _))

  steady_dispatched : {level : ℕ} (k : ℕ) (v : Value) → Steady level (dispatch p at k v)
  steady_dispatched k v =
      alike_if _ (steady_fault ResolvedCall p fault_kind.Void at) (alike_then (steady_or_stuck _) (λ signature. alike_then (steady_dynamic_type v) (λ ty. steady_dispatched_to _ v ty)))

  steady_bound_to : {level : ℕ} (object : ℕ) → Steady level (bound_to p at object)
  steady_bound_to object = alike_then (steady_object_at object) (λ o. alike_then (steady_or_stuck _) (λ b. alike_then (steady_or_stuck _) (λ receiver. steady_pure _)))

  pub steady_callee : {level : ℕ} (called : TypedCallee) (v : Value) → Steady level (callee p at called v)
  steady_callee (called.Static target class) v = steady_pure _
  steady_callee (called.Dispatch k) v = steady_dispatched k v
  steady_callee called.Bound v = alike_if _ (steady_fault ResolvedCall p fault_kind.Void at) (alike_then (steady_or_stuck _) steady_bound_to)

  steady_widened_for : {level : ℕ} (c : ResolvedCall) (given : List (Option Value)) → Steady level (boxed_for p at c given)
  steady_widened_for c given = alike_then (steady_widened_where p at _ _) (λ values. steady_widened_where p at _ _)

  pub steady_handed : {level : ℕ} (called : TypedCallee) (c : ResolvedCall) (given : List (Option Value)) (back : List (Option ℕ)) → Steady level (pass_args p at called c given back)
  steady_handed (called.Static target class) c given back = steady_pure _
  steady_handed (called.Dispatch k) c given back =
      alike_then (steady_or_stuck _) (λ signature. alike_then (steady_widened_for c given) (λ values. steady_pure _))
  steady_handed called.Bound c given back =
      alike_then (steady_or_stuck _) (λ object. alike_then (steady_object_at object) (λ o. alike_then (steady_or_stuck _) (λ b. alike_then (steady_or_stuck _) (λ t.
      alike_then (steady_or_stuck _) (λ all. alike_then (steady_widened_for c all) (λ values. alike_then (steady_or_stuck _) (λ backs. alike_then (steady_or_stuck _) (λ wide. steady_pure _))))))))

  steady_widened_back : {level : ℕ} (back : List (Option ℕ)) (wide : List Bool) (variables : List Value) → Steady level (boxed_back p at back wide variables)
  steady_widened_back (Some var ∷ back) (wide ∷ more) (v ∷ rest) = alike_then (steady_widened_if p at wide v) (λ w. alike_then (steady_widened_back back more rest) (λ ws. steady_pure _))
  steady_widened_back (None ∷ back) (wide ∷ more) (v ∷ rest) = alike_then (steady_widened_back back more rest) (λ ws. steady_pure _)
  steady_widened_back (None ∷ back) (wide ∷ more) [] = steady_widened_back back more []
  steady_widened_back (Some var ∷ back) (wide ∷ more) [] = steady_stuck
  steady_widened_back [] [] rest = steady_pure _
  steady_widened_back [] (wide ∷ more) rest = steady_stuck
  steady_widened_back (Some var ∷ back) [] rest = steady_stuck
  steady_widened_back (None ∷ back) [] rest = steady_stuck

  steady_bring_back : {level : ℕ} (var : ℕ) (v : Value) → Steady level (copy_out p at var v)
  steady_bring_back var v =
      alike_then (steady_look _ (λ d s. refl)) (λ feature. alike_then (steady_or_stuck _) (λ k. alike_then (steady_or_stuck _) (λ f. alike_then (steady_or_stuck _) (λ ty.
      alike_then (steady_widened_if p at _ v) (λ w. steady_write var w)))))

  steady_copied_back : {level : ℕ} (back : List (Option ℕ)) (variables : List Value) → Steady level (copy_back p at back variables)
  steady_copied_back (Some var ∷ more) (v ∷ rest) = alike_before (steady_bring_back var v) (steady_copied_back more rest)
  steady_copied_back (None ∷ more) (v ∷ rest) = steady_copied_back more rest
  steady_copied_back (Some var ∷ more) [] = steady_stuck
  steady_copied_back (None ∷ more) [] = steady_copied_back more []
  steady_copied_back [] variables = steady_pure _

  pub steady_brought : {level : ℕ} (h : PassedArgs) (r : Value × List Value) → Steady level (copy_results p at h r)
  steady_brought h r = alike_then (steady_widened_if p at h.wide r.0) (λ v. alike_then (steady_widened_back h.back h.wide_back r.1) (λ values. alike_before (steady_copied_back h.back values) (steady_pure v)))

  steady_attribute : {level : ℕ} (a : ℕ) (self : Value) → Steady level (attribute p at a self)
  steady_attribute a (Imm ty _) = steady_or_stuck _
  steady_attribute a (Ref number) = alike_then (steady_object_at number) (λ o. steady_or_stuck _)
  steady_attribute a Void = steady_fault Value p fault_kind.Void at
  steady_attribute a (Int z) = steady_stuck
  steady_attribute a (Truth b) = steady_stuck
  steady_attribute a (Char byte) = steady_stuck
  steady_attribute a (Text bytes) = steady_stuck
  steady_attribute a (Bound object) = steady_stuck
  steady_attribute a (Boxed v) = steady_stuck

  steady_set_attribute : {level : ℕ} (a : ℕ) (v self : Value) → Steady level (set_attribute p at a v self)
  steady_set_attribute a v (Imm ty _) = alike_then (steady_with_place _ _ _) (λ changed. alike_before (steady_charge at _) (steady_pure _))
  steady_set_attribute a v (Ref number) = alike_then (steady_object_at number) (λ o. alike_then (steady_with_place _ _ _) (λ changed. alike_before (steady_set_object number _) (steady_pure _)))
  steady_set_attribute a v Void = steady_fault Value p fault_kind.Void at
  steady_set_attribute a v (Int z) = steady_stuck
  steady_set_attribute a v (Truth b) = steady_stuck
  steady_set_attribute a v (Char byte) = steady_stuck
  steady_set_attribute a v (Text bytes) = steady_stuck
  steady_set_attribute a v (Bound object) = steady_stuck
  steady_set_attribute a v (Boxed w) = steady_stuck

steady_shared : {level : ℕ} (k : ℕ) → Steady level (shared k)
steady_shared k = alike_then (steady_look _ (λ d s. refl)) (λ shareds. steady_or_stuck _)

pub steady_set_shared : {level : ℕ} (k : ℕ) (v : Value) → Steady level (set_shared k v)
steady_set_shared k v = alike_then (steady_look _ (λ d s. refl)) (λ shareds. alike_then (steady_with_place _ _ _) (λ changed. steady_change _ (λ d s. refl) (λ s. refl) (λ s. refl)))

-- ---- the ends of routines and instances

steady_returned : {level : ℕ} (k : ℕ) (caller : Activation) (flow : Completion) → Steady level (after_return k caller flow)
steady_returned k caller (Returning v) = alike_then (steady_look _ (λ d s. refl)) (λ variables. alike_before (steady_leave k caller) (steady_pure _))
steady_returned k caller Done = alike_then (steady_look _ (λ d s. refl)) (λ variables. alike_before (steady_leave k caller) (steady_pure _))
steady_returned k caller Quitting = steady_stuck
steady_returned k caller (Yielding v r) = steady_stuck

steady_raised_out : {level : ℕ} {A : Type 0} (k : ℕ) (caller : Activation) (cause : AbruptCause) → Steady level (after_raise {A = A} k caller cause)
steady_raised_out k caller (Raised exception kind at) = alike_before (steady_leave k caller) (steady_stop _)
steady_raised_out k caller Broke = steady_stuck
steady_raised_out k caller (Failed kind at) = steady_stop _
steady_raised_out k caller InputFailed = steady_stop _

pub steady_this_feature : {level : ℕ} → Steady level this_feature
steady_this_feature = alike_then (steady_look _ (λ d s. refl)) steady_or_stuck

pub steady_clear_loop : {level : ℕ} (p : Program) (loop : ℕ) → Steady level (clear_loop p loop)
steady_clear_loop p loop = alike_then steady_this_feature (λ k. alike_then (steady_or_stuck _) (λ f. steady_change _ (λ d s. refl) (λ s. refl) (λ s. refl)))

pub steady_end_loop : {level : ℕ} (p : Program) (loop : ℕ) → Steady level (end_loop p loop)
steady_end_loop p loop = alike_then steady_this_feature (λ k. alike_then (steady_or_stuck _) (λ f. steady_change _ (λ d s. refl) (λ s. refl) (λ s. refl)))

module _ (p : Program) (here : CallSite) (i : Instance) where
  steady_instance_ends : {level : ℕ} (event : ℕ → ℕ → ℕ → Event) → Steady level (instance_ends here i event)
  steady_instance_ends event = steady_change _ (λ d s. refl) (λ s. refl) (λ s. refl)

  steady_suspended : {level : ℕ} (h : PassedArgs) (flow : Completion) → Steady level (after_suspend p here i h flow)
  steady_suspended h (Yielding v r) =
      alike_then (steady_look _ (λ d s. refl)) (λ variables. alike_before (steady_change _ (λ d s. refl) (λ s. refl) (λ s. refl)) (steady_brought p here.at h (v, variables)))
  steady_suspended h (Returning v) = steady_stuck
  steady_suspended h Done = alike_before (steady_instance_ends Quits) (steady_stop Broke)
  steady_suspended h Quitting = alike_before (steady_instance_ends Quits) (steady_stop Broke)

  steady_raised_through : {level : ℕ} (cause : AbruptCause) → Steady level (raised_through p here i cause)
  steady_raised_through (Raised exception kind at) = alike_before (steady_instance_ends Abandon) (steady_stop (Raised exception kind at))
  steady_raised_through Broke = steady_stuck
  steady_raised_through (Failed kind at) = steady_stop _
  steady_raised_through InputFailed = steady_stop _

-- ---- calls, starts and resumptions

module _ (p : Program) (level : ℕ) (go to : Continuation → Eval Completion) (alike : (r : Continuation) → Alike level (go r) (to r)) where
  module _ (at : Pos) where
    alike_entered : (k : ℕ) (f : Feature) (self : Value) (given : List (Option Value)) (caller : Activation) → Alike level (enter_routine p go at k f self given caller) (enter_routine p to at k f self given caller)
    alike_entered k f self given caller =
        alike_then (steady_or_stuck _) (λ variables. alike_before (steady_checked_depth at caller) (alike_before (steady_enter k _) (alike_resolve (alike _) (steady_returned k caller) (steady_raised_out k caller))))

    pub alike_routine : (k : ℕ) (self : Value) (given : List (Option Value)) → Alike (suc level) (routine p go at k self given) (routine p to at k self given)
    alike_routine k self given =
        alike_then (steady_or_stuck _) (λ f. alike_then (steady_look _ (λ d s. refl)) (λ caller. alike_if _ steady_stuck (turns (alike_entered k f self given caller))))

    steady_with_no_variables : (f : Eval Value) → Steady (suc level) f → Alike (suc level) (with_no_variables p go at f) (with_no_variables p to at f)
    steady_with_no_variables f e = alike_then e (λ v. steady_pure _)

    pub alike_reached : (t : Target) (class : Option ℕ) (self : Value) (given : List (Option Value)) → Alike (suc level) (reached p go at t class self given) (reached p to at t class self given)
    alike_reached (target.Feature k) class self given = alike_routine k self given
    alike_reached (target.Builtin b) class self given = steady_with_no_variables _ (steady_builtin_call p class at self _ b)
    alike_reached (target.Get a) class self [] = steady_with_no_variables _ (steady_attribute p at a self)
    alike_reached (target.Get a) class self (v ∷ given) = steady_stuck
    alike_reached (target.Set a) class self given = steady_with_no_variables _ (alike_then (steady_or_stuck _) (λ v. steady_set_attribute p at a v self))
    alike_reached (target.GetShared k) class self [] = steady_with_no_variables _ (steady_shared k)
    alike_reached (target.GetShared k) class self (v ∷ given) = steady_stuck
    alike_reached (target.SetShared k) class self given = steady_with_no_variables _ (alike_before (alike_then (steady_or_stuck _) (steady_set_shared k)) (steady_pure _))

    pub alike_call : (called : TypedCallee) (v : Value) (given : List (Option Value)) (back : List (Option ℕ)) → Alike (suc level) (call p go at called v given back) (call p to at called v given back)
    alike_call called v given back =
        alike_then (steady_callee p at called v) (λ c. alike_then (steady_handed p at called c given back) (λ h. alike_then (alike_reached _ _ _ _) (λ r. steady_brought p at h r)))

  module _ (here : CallSite) where
    alike_run_instance : (h : PassedArgs) (i : Instance) (inside : SiteInstances) → Alike level (run_instance p go here h i inside) (run_instance p to here h i inside)
    alike_run_instance h i inside = alike_before (steady_enter _ _) (alike_resolve (alike _) (steady_suspended p here i h) (steady_raised_through p here i))

    steady_add_instance : {n : ℕ} → Alike n (add_instance p go here) (add_instance p to here)
    steady_add_instance = moves _ _ (λ d s. refl) (λ d s. refl) (λ s. refl) (λ s. refl)

    alike_begun : (k : ℕ) (f : Feature) (c : ResolvedCall) (h : PassedArgs) → Alike level (begin_instance p go here k f c h) (begin_instance p to here k f c h)
    alike_begun k f c h =
        alike_then (steady_or_stuck _) (λ variables. alike_before (steady_checked_depth here.at here.caller) (alike_before (steady_checked_live here.at) (alike_then steady_add_instance (λ number. alike_run_instance h _ Empty))))

    alike_start_of : (t : Target) (c : ResolvedCall) (h : PassedArgs) → Alike (suc level) (start_of p go here t c h) (start_of p to here t c h)
    alike_start_of (target.Feature k) c h = alike_then (steady_or_stuck _) (λ f. alike_if _ (turns (alike_begun k f c h)) steady_stuck)
    alike_start_of (target.Builtin b) c h = steady_stuck
    alike_start_of (target.Get a) c h = steady_stuck
    alike_start_of (target.Set a) c h = steady_stuck
    alike_start_of (target.GetShared k) c h = steady_stuck
    alike_start_of (target.SetShared k) c h = steady_stuck

    pub alike_start : (c : ResolvedCall) (h : PassedArgs) → Alike (suc level) (start p go here c h) (start p to here c h)
    alike_start c h = alike_start_of c.target c h

    alike_continued : (f : Feature) (i : Instance) (inside : SiteInstances) (h : PassedArgs) → Alike level (continue_instance p go here f i inside h) (continue_instance p to here f i inside h)
    alike_continued f i inside h =
        alike_then (steady_or_stuck _) (λ variables. alike_before (steady_checked_depth here.at here.caller) (alike_before (steady_change _ (λ d s. refl) (λ s. refl) (λ s. refl)) (alike_run_instance h _ inside)))

    pub alike_resume : (i : Instance) (inside : SiteInstances) (h : PassedArgs) → Alike (suc level) (resume p go here i inside h) (resume p to here i inside h)
    alike_resume i inside h = alike_then (steady_or_stuck _) (λ f. turns (alike_continued f i inside h))
