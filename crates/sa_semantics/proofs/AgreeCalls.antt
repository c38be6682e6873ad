-- Calls and instances agree.
use Rattle.std.proofs.Common.{◌≡◌, ℕ, Bool, true, false, if◌then◌else◌, List, [], ◌∷◌, map, Option, Some, None, refl, sym, ap, subst, ◌∙◌}
use Rattle.std.proofs.lemmas.Option.{get_or_from_slice_get, slice_get_within}
use Rattle.std.specs.Prelude.{◌==◌, nat_lt, slice_get}
use Rattle.sa_ast.specs.declared.fault_kind.FaultKind.TheVariants as fault_kind
use Rattle.sa_ast.specs.declared.pos.Pos.{Pos}
use Rattle.sa_typed.specs.declared.feature.TypedCallee.{TypedCallee}
use Rattle.sa_typed.specs.declared.feature.TypedCallee.TheVariants as called
use Rattle.sa_typed.specs.declared.feature.Site.{Site}
use Rattle.sa_typed.specs.declared.feature.Target.{Target}
use Rattle.sa_typed.specs.declared.feature.Target.TheVariants as target
use Rattle.sa_typed.specs.declared.program.TypedImplementation.{TypedImplementation}
use Rattle.sa_typed.specs.Tree.{Stmts, no_stmts, stmt}
use Rattle.sa_prelude.specs.declared.feature.BuiltinFeature.{BuiltinFeature}
use Rattle.sa_prelude.specs.declared.feature.BuiltinFeature.TheVariants.{ArefAset}
use Rattle.sa_semantics.specs.Value.{Value, Void, Int, Truth, Char, Text, Ref, Imm, Bound, Boxed}
use Rattle.sa_semantics.specs.Program.{Program, Feature, before}
use Rattle.sa_semantics.specs.Protects.{AreUnguarded, HasNoProtect}
use Rattle.sa_semantics.specs.Sequence.{◌>>=◌, resolve, resolve_outcome, change, stop, at_index, or_stuck, Normal}
use Rattle.sa_semantics.specs.State.{Continuation, all_of, SiteInstances, Empty, Entry, Instance, Activation, State, Broke, Completion, Done, Yielding, Returning, Quitting}
use Rattle.sa_semantics.specs.Steps.{Eval}
use Rattle.sa_semantics.specs.Calls.{dynamic_type, box_value, boxed, boxed_if, boxed_from, boxed_where, wide_builtin, wide_arguments, wide_once, boxed_for, boxed_back, ResolvedCall, PassedArgs, dispatch_to, dispatch, bound_to, callee, pass_args, copy_out, copy_back, copy_results, attribute, set_attribute, shared, set_shared, fill_arguments, after_return, after_raise, enter_routine, routine, with_no_variables, reached, call}
use Rattle.sa_semantics.specs.Instances.{find_instance, retain_sites, remove_site, insert_site, set_anew, end_sites, this_feature, clear_loop, end_loop, CallSite, after_suspend, raised_through, run_instance, add_instance, begin_instance, start_of, start, continue_instance, resume}
use Rattle.sa_semantics.proofs.Agree.{RestUnguarded, SitesUnguarded, FoundUnguarded, FlowUnguarded, Fits, both_broke, both_raised, parted, both_failed, both_in_fault, give, halt, stick, AgreeIn, agree, Any, Agree, Passes, agree_resolve, agree_then, agree_before, agree_looking, agree_going, agree_if, agree_turn, agree_pure, agree_stop, agree_stuck, agree_look, agree_change, agree_or_stuck, agree_or_stuck_same, agree_some, agree_with_place}
use Rattle.sa_semantics.proofs.AgreeSteps.{same_void, agree_charge, agree_object_at, agree_set_object, agree_fault, agree_write, agree_checked_depth, agree_checked_live}
use Rattle.sa_semantics.proofs.AgreeBuiltin.{agree_builtin_call}

-- ---- boxing

pub agree_dynamic_type : {feature : Option ℕ} (v : Value) → Agree feature (dynamic_type v) (dynamic_type v)
agree_dynamic_type v = agree_look _

agree_widen : {feature : Option ℕ} (at : Pos) (attributes : ℕ) (v : Value) → Agree feature (box_value at attributes v) (box_value at attributes v)
agree_widen at attributes v = agree_before (agree_charge at _) (agree_pure _)

agree_widened : {feature : Option ℕ} (p : Program) (at : Pos) (v : Value) → Agree feature (boxed p at v) (boxed (before p) at v)
agree_widened p at (Int z) = agree_widen at 1 (Int z)
agree_widened p at (Truth b) = agree_widen at 1 (Truth b)
agree_widened p at (Char byte) = agree_widen at 1 (Char byte)
agree_widened p at (Imm ty _) = agree_widen at _ _
agree_widened p at Void = agree_pure _
agree_widened p at (Text bytes) = agree_pure _
agree_widened p at (Ref object) = agree_pure _
agree_widened p at (Bound object) = agree_pure _
agree_widened p at (Boxed v) = agree_pure _

agree_widened_if : {feature : Option ℕ} (p : Program) (at : Pos) (wide : Bool) (v : Value) → Agree feature (boxed_if p at wide v) (boxed_if (before p) at wide v)
agree_widened_if p at wide v = agree_if wide (agree_widened p at v) (agree_pure v)

pub agree_widened_from : {feature : Option ℕ} (p : Program) (at : Pos) (ty : ℕ) (v : Value) → Agree feature (boxed_from p at ty v) (boxed_from (before p) at ty v)
agree_widened_from p at ty v = agree_if _ (agree_widened p at v) agree_stuck

pub agree_widened_where : {feature : Option ℕ} (p : Program) (at : Pos) (wide : List Bool) (given : List (Option Value)) → Agree feature (boxed_where p at wide given) (boxed_where (before p) at wide given)
agree_widened_where p at (wide ∷ more) (Some v ∷ rest) =
    agree_then (agree_widened_if p at wide v) (λ w. agree_then (agree_widened_where p at more rest) (λ ws. agree_pure _))
agree_widened_where p at (wide ∷ more) (None ∷ rest) = agree_then (agree_widened_where p at more rest) (λ ws. agree_pure _)
agree_widened_where p at (wide ∷ more) [] = agree_pure _
agree_widened_where p at [] rest = agree_pure _

same_wide_builtin : (p : Program) (class : Option ℕ) (b : BuiltinFeature) → wide_builtin (before p) class b ≡ wide_builtin p class b
same_wide_builtin p class ArefAset = refl
same_wide_builtin p class _ = refl

same_wide_arguments : (p : Program) (class : Option ℕ) (t : Target) → wide_arguments (before p) class t ≡ wide_arguments p class t
same_wide_arguments p class (target.Builtin b) = same_wide_builtin p class b
same_wide_arguments p class _ = refl

same_wide_once : (p : Program) (t : Target) → wide_once (before p) t ≡ wide_once p t
same_wide_once p _ = refl

-- where both box the same arguments
agree_widened_same : {feature : Option ℕ} (p : Program) (at : Pos) (wide wide' : List Bool) → wide' ≡ wide → (given : List (Option Value)) → Agree feature (boxed_where p at wide given) (boxed_where (before p) at wide' given)
agree_widened_same {feature} p at wide wide' e given = subst (λ x. Agree feature (boxed_where p at wide given) (boxed_where (before p) at x given)) (sym e) (agree_widened_where p at wide given)

pub agree_widened_arguments : {feature : Option ℕ} (p : Program) (at : Pos) (class : Option ℕ) (t : Target) (given : List (Option Value)) → Agree feature (boxed_where p at (wide_arguments p class t) given) (boxed_where (before p) at (wide_arguments (before p) class t) given)
agree_widened_arguments p at class t given = agree_widened_same p at _ _ (same_wide_arguments p class t) given

-- ---- what is called, passed and copied out

module _ (p : Program) (at : Pos) where
  agree_dispatched_to : {feature : Option ℕ} (impls : List TypedImplementation) (v : Value) (ty : Option ℕ) → Agree feature (dispatch_to p at impls v ty) (dispatch_to (before p) at impls v ty)
  agree_dispatched_to impls v ty = agree_then (agree_or_stuck _) (λ class. agree_then (agree_or_stuck _) (λ impl. agree_pure _))

  agree_dispatched : {feature : Option ℕ} (k : ℕ) (v : Value) → Agree feature (dispatch p at k v) (dispatch (before p) at k v)
  agree_dispatched k v =
      agree_if _ (agree_fault ResolvedCall p fault_kind.Void at) (agree_then (agree_or_stuck _) (λ signature. agree_then (agree_dynamic_type v) (λ ty. agree_dispatched_to _ v ty)))

  agree_bound_to : {feature : Option ℕ} (object : ℕ) → Agree feature (bound_to p at object) (bound_to (before p) at object)
  agree_bound_to object = agree_then (agree_object_at object) (λ o. agree_then (agree_or_stuck _) (λ b. agree_then (agree_or_stuck _) (λ receiver. agree_pure _)))

  pub agree_callee : {feature : Option ℕ} (called : TypedCallee) (v : Value) → Agree feature (callee p at called v) (callee (before p) at called v)
  agree_callee (called.Static target class) v = agree_pure _
  agree_callee (called.Dispatch k) v = agree_dispatched k v
  agree_callee called.Bound v = agree_if _ (agree_fault ResolvedCall p fault_kind.Void at) (agree_then (agree_or_stuck _) agree_bound_to)

  agree_widened_for : {feature : Option ℕ} (c : ResolvedCall) (given : List (Option Value)) → Agree feature (boxed_for p at c given) (boxed_for (before p) at c given)
  agree_widened_for c given =
      agree_then (agree_widened_same p at _ _ (same_wide_once p c.target) given) (λ values. agree_widened_arguments p at c.class c.target values)

  pub agree_handed : {feature : Option ℕ} (called : TypedCallee) (c : ResolvedCall) (given : List (Option Value)) (back : List (Option ℕ)) → Agree feature (pass_args p at called c given back) (pass_args (before p) at called c given back)
  agree_handed (called.Static target class) c given back = agree_pure _
  agree_handed (called.Dispatch k) c given back =
      agree_then (agree_or_stuck _) (λ signature. agree_then (agree_widened_for c given) (λ values. agree_pure _))
  agree_handed called.Bound c given back =
      agree_then (agree_or_stuck _) (λ object. agree_then (agree_object_at object) (λ o. agree_then (agree_or_stuck _) (λ b. agree_then (agree_or_stuck _) (λ t.
      agree_then (agree_or_stuck _) (λ all. agree_then (agree_widened_for c all) (λ values. agree_then (agree_or_stuck _) (λ backs. agree_then (agree_or_stuck _) (λ wide. agree_pure _))))))))

  agree_widened_back : {feature : Option ℕ} (back : List (Option ℕ)) (wide : List Bool) (variables : List Value) → Agree feature (boxed_back p at back wide variables) (boxed_back (before p) at back wide variables)
  agree_widened_back (Some var ∷ back) (wide ∷ more) (v ∷ rest) = agree_then (agree_widened_if p at wide v) (λ w. agree_then (agree_widened_back back more rest) (λ ws. agree_pure _))
  agree_widened_back (None ∷ back) (wide ∷ more) (v ∷ rest) = agree_then (agree_widened_back back more rest) (λ ws. agree_pure _)
  agree_widened_back (None ∷ back) (wide ∷ more) [] = agree_widened_back back more []
  agree_widened_back (Some var ∷ back) (wide ∷ more) [] = agree_stuck
  agree_widened_back [] [] rest = agree_pure _
  agree_widened_back [] (wide ∷ more) rest = agree_stuck
  agree_widened_back (Some var ∷ back) [] rest = agree_stuck
  agree_widened_back (None ∷ back) [] rest = agree_stuck

  agree_bring_back : {feature : Option ℕ} (var : ℕ) (v : Value) → Agree feature (copy_out p at var v) (copy_out (before p) at var v)
  agree_bring_back var v =
      agree_then (agree_look _) (λ feature. agree_then (agree_or_stuck _) (λ k. agree_then (agree_or_stuck _) (λ f. agree_then (agree_or_stuck _) (λ ty.
      agree_then (agree_widened_if p at _ v) (λ w. agree_write var w)))))

  agree_copied_back : {feature : Option ℕ} (back : List (Option ℕ)) (variables : List Value) → Agree feature (copy_back p at back variables) (copy_back (before p) at back variables)
  agree_copied_back (Some var ∷ more) (v ∷ rest) = agree_before (agree_bring_back var v) (agree_copied_back more rest)
  agree_copied_back (None ∷ more) (v ∷ rest) = agree_copied_back more rest
  agree_copied_back (Some var ∷ more) [] = agree_stuck
  agree_copied_back (None ∷ more) [] = agree_copied_back more []
  agree_copied_back [] variables = agree_pure _

  pub agree_brought : {feature : Option ℕ} (h : PassedArgs) (r : Value × List Value) → Agree feature (copy_results p at h r) (copy_results (before p) at h r)
  agree_brought h r = agree_then (agree_widened_if p at h.wide r.0) (λ v. agree_then (agree_widened_back h.back h.wide_back r.1) (λ values. agree_before (agree_copied_back h.back values) (agree_pure v)))

  agree_attribute : {feature : Option ℕ} (a : ℕ) (self : Value) → Agree feature (attribute p at a self) (attribute (before p) at a self)
  agree_attribute a (Imm ty _) = agree_or_stuck _
  agree_attribute a (Ref number) = agree_then (agree_object_at number) (λ o. agree_or_stuck _)
  agree_attribute a Void = agree_fault Value p fault_kind.Void at
  agree_attribute a (Int z) = agree_stuck
  agree_attribute a (Truth b) = agree_stuck
  agree_attribute a (Char byte) = agree_stuck
  agree_attribute a (Text bytes) = agree_stuck
  agree_attribute a (Bound object) = agree_stuck
  agree_attribute a (Boxed v) = agree_stuck

  agree_set_attribute : {feature : Option ℕ} (a : ℕ) (v self : Value) → Agree feature (set_attribute p at a v self) (set_attribute (before p) at a v self)
  agree_set_attribute a v (Imm ty _) = agree_then (agree_with_place _ _ _) (λ changed. agree_before (agree_charge at _) (agree_pure _))
  agree_set_attribute a v (Ref number) = agree_then (agree_object_at number) (λ o. agree_then (agree_with_place _ _ _) (λ changed. agree_before (agree_set_object number _) (agree_pure _)))
  agree_set_attribute a v Void = agree_fault Value p fault_kind.Void at
  agree_set_attribute a v (Int z) = agree_stuck
  agree_set_attribute a v (Truth b) = agree_stuck
  agree_set_attribute a v (Char byte) = agree_stuck
  agree_set_attribute a v (Text bytes) = agree_stuck
  agree_set_attribute a v (Bound object) = agree_stuck
  agree_set_attribute a v (Boxed w) = agree_stuck

agree_shared : {feature : Option ℕ} (k : ℕ) → Agree feature (shared k) (shared k)
agree_shared k = agree_then (agree_look _) (λ shareds. agree_or_stuck _)

pub agree_set_shared : {feature : Option ℕ} (k : ℕ) (v : Value) → Agree feature (set_shared k v) (set_shared k v)
agree_set_shared k v = agree_then (agree_look _) (λ shareds. agree_then (agree_with_place _ _ _) (λ changed. agree_change _ (λ s e. e)))

-- ---- sites

both_unguarded : (b : Bool) (x y : SiteInstances) → SitesUnguarded x → SitesUnguarded y → SitesUnguarded (if b then x else y)
both_unguarded true x y u w = u
both_unguarded false x y u w = w

kept_unguarded : (test : ℕ → Bool) (sites : SiteInstances) → SitesUnguarded sites → SitesUnguarded (retain_sites test sites)
kept_unguarded test Empty u = tt
kept_unguarded test (Entry k i inside others) u =
    both_unguarded (test k) _ _ (u.0, u.1, kept_unguarded test others u.2) (kept_unguarded test others u.2)

added_unguarded : (site : ℕ) (i : Instance) (inside sites : SiteInstances) → RestUnguarded i.left → SitesUnguarded inside → SitesUnguarded sites → SitesUnguarded (insert_site site i inside sites)
added_unguarded site i inside Empty u w x = (u, w, tt)
added_unguarded site i inside (Entry k j within others) u w x =
    both_unguarded (nat_lt k site) _ _ (x.0, x.1, added_unguarded site i inside others u w x.2) (u, w, x)

one_unguarded : (b : Bool) (e : Instance × SiteInstances) (o : Option (Instance × SiteInstances)) → FoundUnguarded (Some e) → FoundUnguarded o → FoundUnguarded (if b then Some e else o)
one_unguarded true e o u w = u
one_unguarded false e o u w = w

pub found_unguarded : (site : ℕ) (sites : SiteInstances) → SitesUnguarded sites → FoundUnguarded (find_instance site sites)
found_unguarded site Empty u = tt
found_unguarded site (Entry k i inside others) u = one_unguarded (k == site) (i, inside) _ (u.0, u.1) (found_unguarded site others u.2)

-- ---- the ends of routines and instances

body_unguarded : (p : Program) → HasNoProtect p → (k : ℕ) (f : Feature) → slice_get p.features k ≡ Some f → AreUnguarded f.body
body_unguarded p none k f is = subst (λ (g : Feature). AreUnguarded g.body) (get_or_from_slice_get p.features k f f is) (none k f (slice_get_within p.features k f is))

pub all_unguarded : (list : Stmts) → AreUnguarded list → RestUnguarded (all_of list)
all_unguarded no_stmts u = tt
all_unguarded (stmt a more) u = (u.0, all_unguarded more u.1)

pub agree_this_feature : {feature : Option ℕ} → Agree feature this_feature this_feature
agree_this_feature = agree_then (agree_look _) agree_or_stuck

pub agree_clear_loop : {feature : Option ℕ} (p : Program) (loop : ℕ) → Agree feature (clear_loop p loop) (clear_loop (before p) loop)
agree_clear_loop p loop = agree_then agree_this_feature (λ k. agree_then (agree_or_stuck _) (λ f. agree_change _ (λ s e. (e.0, kept_unguarded _ s.here.sites e.1))))

pub agree_end_loop : {feature : Option ℕ} (p : Program) (loop : ℕ) → Agree feature (end_loop p loop) (end_loop (before p) loop)
agree_end_loop p loop = agree_then agree_this_feature (λ k. agree_then (agree_or_stuck _) (λ f. agree_change _ (λ s e. (e.0, kept_unguarded _ s.here.sites e.1))))

-- In a feature of the program a loop's instances can always end.
pub ends_loop : (p : Program) (k : ℕ) (f : Feature) → slice_get p.features k ≡ Some f → (loop : ℕ) (s : State) → s.here.feature ≡ Some k → end_loop p loop s ≡ Normal tt (end_sites k f.sites loop s)
unfolding resolve or_stuck
ends_loop p k f is loop s e =
    ap (λ o. resolve_outcome (or_stuck o s) (λ j. at_index p.features j >>= (λ g. change (end_sites j g.sites loop))) stop) e
    ∙ ap (λ o. resolve_outcome (or_stuck o s) (λ g. change (end_sites k g.sites loop)) stop) is

pub ended_fits : {feature : Option ℕ} (k : ℕ) (sites : List Site) (loop : ℕ) (s : State) → Fits feature s.here → Fits feature (end_sites k sites loop s).here
ended_fits k sites loop s fits = (fits.0, kept_unguarded _ s.here.sites fits.1)

module _ (feature : Option ℕ) (k : ℕ) (caller : Activation) (fits : Fits feature caller) where
  agree_returned : (flow : Completion) → AgreeIn (Some k) feature _ Any (after_return k caller flow) (after_return k caller flow)
  agree_returned (Returning v) = agree_looking _ _ (λ s e. agree_going _ (λ t w. fits) (agree_pure _))
  agree_returned Done = agree_looking _ _ (λ s e. agree_going _ (λ t w. fits) (agree_pure _))
  agree_returned Quitting = agree_stuck
  agree_returned (Yielding v r) = agree_stuck

  passes_raised_out : {B : Type 0} {Q : B → Type 0} → Passes (Some k) feature Q (after_raise k caller) (after_raise k caller)
  unfolding resolve
  passes_raised_out c d s t (both_broke u e) = stick u
  passes_raised_out c d s t (both_raised v kind at u e) = halt _ _ _ _ (both_raised v kind at _ fits)
  passes_raised_out c d s t (parted v kind at u w e same) = halt _ _ _ _ (parted v kind at _ w fits same)
  passes_raised_out c d s t (both_failed kind at u) = halt _ _ _ _ (both_failed kind at u)
  passes_raised_out c d s t (both_in_fault u) = halt _ _ _ _ (both_in_fault u)

module _ (p : Program) (feature : Option ℕ) (here : CallSite) (fits : Fits feature here.caller) (i : Instance) where
  gone_fits : Fits feature (record (here.caller) { sites = remove_site here.site here.caller.sites })
  gone_fits = (fits.0, kept_unguarded _ here.caller.sites fits.1)

  agree_suspended : (h : PassedArgs) (flow : Completion) → FlowUnguarded flow → AgreeIn (Some i.feature) feature _ Any (after_suspend p here i h flow) (after_suspend (before p) here i h flow)
  agree_suspended h (Yielding v r) u =
      agree_looking _ _ (λ s e. agree_going _ (λ t w. (fits.0, added_unguarded here.site _ t.here.sites _ u w.1 (kept_unguarded _ here.caller.sites fits.1))) (agree_brought p here.at h (v, s.here.variables)))
  agree_suspended h (Returning v) u = agree_stuck
  agree_suspended h Done u = agree_going _ (λ t w. gone_fits) (agree_stop Broke)
  agree_suspended h Quitting u = agree_going _ (λ t w. gone_fits) (agree_stop Broke)

  passes_raised_through : {Q : Value → Type 0} → Passes (Some i.feature) feature Q (raised_through p here i) (raised_through (before p) here i)
  unfolding resolve
  passes_raised_through c d s t (both_broke u e) = stick u
  passes_raised_through c d s t (both_raised v kind at u e) = halt _ _ _ _ (both_raised v kind at _ gone_fits)
  passes_raised_through c d s t (parted v kind at u w e same) = halt _ _ _ _ (parted v kind at _ w gone_fits same)
  passes_raised_through c d s t (both_failed kind at u) = halt _ _ _ _ (both_failed kind at u)
  passes_raised_through c d s t (both_in_fault u) = halt _ _ _ _ (both_in_fault u)

-- ---- calls, starts and resumptions

-- what a turn begins, in a feature of the program
abbrev pub AgreeFrom : Program → (Continuation → Eval Completion) → (Continuation → Eval Completion) → Type 0
AgreeFrom p go to = (k : ℕ) (f : Feature) → slice_get p.features k ≡ Some f → (r : Continuation) → RestUnguarded r → AgreeIn (Some k) (Some k) Completion FlowUnguarded (go r) (to r)

module _ (p : Program) (none : HasNoProtect p) (go to : Continuation → Eval Completion) (alike : AgreeFrom p go to) where
  module _ (at : Pos) where
    agree_entered : {feature : Option ℕ} (k : ℕ) (f : Feature) → slice_get p.features k ≡ Some f → (self : Value) (given : List (Option Value)) (caller : Activation) → Fits feature caller → Agree feature (enter_routine p go at k f self given caller) (enter_routine (before p) to at k f self given caller)
    agree_entered {feature} k f is self given caller fits =
        agree_then (agree_or_stuck_same _ _ (ap (λ voids. fill_arguments f.modes (map voids f.vars) given) (same_void p)))
        (λ variables. agree_before (agree_checked_depth at caller) (agree_going {via = Some k} _ (λ s e. (refl, tt))
        (agree_resolve (alike k f is _ (all_unguarded f.body (body_unguarded p none k f is))) (λ flow u. agree_returned feature k caller fits flow) (passes_raised_out feature k caller fits))))

    pub agree_routine : {feature : Option ℕ} (k : ℕ) (self : Value) (given : List (Option Value)) → Agree feature (routine p go at k self given) (routine (before p) to at k self given)
    agree_routine k self given =
        agree_some _ (λ f is. agree_looking _ _ (λ s e. agree_if _ agree_stuck (agree_turn (agree_entered k f is self given s.here e))))

    agree_with_no_variables : {feature : Option ℕ} (f g : Eval Value) → Agree feature f g → Agree feature (with_no_variables p go at f) (with_no_variables (before p) to at g)
    agree_with_no_variables f g e = agree_then e (λ v. agree_pure _)

    pub agree_reached : {feature : Option ℕ} (t : Target) (class : Option ℕ) (self : Value) (given : List (Option Value)) → Agree feature (reached p go at t class self given) (reached (before p) to at t class self given)
    agree_reached (target.Feature k) class self given = agree_routine k self given
    agree_reached (target.Builtin b) class self given = agree_with_no_variables _ _ (agree_builtin_call p class at self _ b)
    agree_reached (target.Get a) class self [] = agree_with_no_variables _ _ (agree_attribute p at a self)
    agree_reached (target.Get a) class self (v ∷ given) = agree_stuck
    agree_reached (target.Set a) class self given = agree_with_no_variables _ _ (agree_then (agree_or_stuck _) (λ v. agree_set_attribute p at a v self))
    agree_reached (target.GetShared k) class self [] = agree_with_no_variables _ _ (agree_shared k)
    agree_reached (target.GetShared k) class self (v ∷ given) = agree_stuck
    agree_reached (target.SetShared k) class self given = agree_with_no_variables _ _ (agree_before (agree_then (agree_or_stuck _) (agree_set_shared k)) (agree_pure _))

    pub agree_call : {feature : Option ℕ} (called : TypedCallee) (v : Value) (given : List (Option Value)) (back : List (Option ℕ)) → Agree feature (call p go at called v given back) (call (before p) to at called v given back)
    agree_call called v given back =
        agree_then (agree_callee p at called v) (λ c. agree_then (agree_handed p at called c given back) (λ h. agree_then (agree_reached _ _ _ _) (λ r. agree_brought p at h r)))

  module _ (feature : Option ℕ) (here : CallSite) (fits : Fits feature here.caller) where
    agree_run_instance : (h : PassedArgs) (i : Instance) (f : Feature) → slice_get p.features i.feature ≡ Some f → RestUnguarded i.left → (inside : SiteInstances) → SitesUnguarded inside → Agree feature (run_instance p go here h i inside) (run_instance (before p) to here h i inside)
    agree_run_instance h i f is u inside w =
        agree_going {via = Some i.feature} _ (λ s e. (refl, w)) (agree_resolve (alike i.feature f is i.left u) (agree_suspended p feature here fits i h) (passes_raised_through p feature here fits i))

    agree_add_instance : Agree feature (add_instance p go here) (add_instance (before p) to here)
    agree_add_instance = agree (λ s e. give _ _ tt e)

    agree_begun : (k : ℕ) (f : Feature) → slice_get p.features k ≡ Some f → (c : ResolvedCall) (h : PassedArgs) → Agree feature (begin_instance p go here k f c h) (begin_instance (before p) to here k f c h)
    agree_begun k f is c h =
        agree_then (agree_or_stuck_same _ _ (ap (λ voids. fill_arguments f.modes (map voids f.vars) h.given) (same_void p)))
        (λ variables. agree_before (agree_checked_depth here.at here.caller) (agree_before (agree_checked_live here.at)
        (agree_then agree_add_instance (λ number. agree_run_instance h _ f is (all_unguarded f.body (body_unguarded p none k f is)) Empty tt))))

    agree_start_of : (t : Target) (c : ResolvedCall) (h : PassedArgs) → Agree feature (start_of p go here t c h) (start_of (before p) to here t c h)
    agree_start_of (target.Feature k) c h = agree_some _ (λ f is. agree_if _ (agree_turn (agree_begun k f is c h)) agree_stuck)
    agree_start_of (target.Builtin b) c h = agree_stuck
    agree_start_of (target.Get a) c h = agree_stuck
    agree_start_of (target.Set a) c h = agree_stuck
    agree_start_of (target.GetShared k) c h = agree_stuck
    agree_start_of (target.SetShared k) c h = agree_stuck

    pub agree_start : (c : ResolvedCall) (h : PassedArgs) → Agree feature (start p go here c h) (start (before p) to here c h)
    agree_start c h = agree_start_of c.target c h

    agree_continued : (f : Feature) (i : Instance) → slice_get p.features i.feature ≡ Some f → RestUnguarded i.left → (inside : SiteInstances) → SitesUnguarded inside → (h : PassedArgs) → Agree feature (continue_instance p go here f i inside h) (continue_instance (before p) to here f i inside h)
    agree_continued f i is u inside w h =
        agree_then (agree_or_stuck_same _ _ (ap (λ voids. set_anew f.modes (map voids f.vars) i.variables h.given) (same_void p)))
        (λ variables. agree_before (agree_checked_depth here.at here.caller) (agree_before (agree_change _ (λ s e. e)) (agree_run_instance h _ f is u inside w)))

    pub agree_resume : (i : Instance) → RestUnguarded i.left → (inside : SiteInstances) → SitesUnguarded inside → (h : PassedArgs) → Agree feature (resume p go here i inside h) (resume (before p) to here i inside h)
    agree_resume i u inside w h = agree_some _ (λ f is. agree_turn (agree_continued f i is u inside w h))
