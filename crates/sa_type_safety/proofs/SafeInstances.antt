-- Instances of iters start, go on, wait and end safely.
use Rattle.std.proofs.Common.{◌≡◌, ℕ, Bool, true, false, ◌==◌, if◌then◌else◌, List, [], ◌∷◌, Option, Some, None, slice_get, option_map, refl, sym, ap, subst, ◌∙◌, true≢false, eqb-true}
use Rattle.std.specs.Prelude.{IsTrue, nat_lt}
use Rattle.sa_ast.specs.declared.ty.Mode.{Mode}
use Rattle.sa_ast.specs.declared.ty.Mode.TheVariants as mode
use Rattle.sa_typed.specs.declared.feature.TypedFeature.{TypedFeature}
use Rattle.sa_typed.specs.declared.feature.Site.{Site}
use Rattle.sa_typed.specs.declared.feature.Target.TheVariants as target
use Rattle.sa_typed.specs.Copy.{block_of}
use Rattle.sa_typing.specs.declared.expr_type.ParamType.{ParamType}
use Rattle.sa_typing.specs.Rows.{Rows}
use Rattle.sa_typing.specs.Contexts.{may_leave, outside}
use Rattle.sa_semantics.specs.Program.{Program, feature_of}
use Rattle.sa_semantics.specs.Value.{Value}
use Rattle.sa_semantics.specs.Sequence.{◌>>◌, stop}
use Rattle.sa_semantics.specs.State.{Continuation, all_of, SiteInstances, Empty, Entry, Instance, Event, Quits, Abandon, State, AbruptCause, Broke, Raised, Failed, InputFailed, Completion, Done, Quitting, Yielding, Returning}
use Rattle.sa_semantics.specs.Steps.{Eval}
use Rattle.sa_semantics.specs.Calls.{ResolvedCall, PassedArgs}
use Rattle.sa_semantics.specs.Instances.{find_instance, retain_sites, insert_site, set_anew, CallSite, instance_ends, after_suspend, raised_through, run_instance, begin_instance, resume}
use Rattle.sa_type_safety.specs.Typing.{ObjectType, heap_typing, HeapExtends, CodeEnv, IsLocal, local_of, HasType, HasTypeIf, HaveTypes, Takes, IsCallee, InstanceWell, SitesWell, ContinuationWell, ActivationWell}
use Rattle.sa_type_safety.proofs.ProgramFacts.{ProgramFacts}
use Rattle.sa_type_safety.proofs.Worlds.{type_later, type_if_later, types_later, sites_later, instance_later, reached_later, exception_later, activation_later}
use Rattle.sa_type_safety.proofs.Safe.{Point, IsAt, AbruptCauseWell, give, halt, SafeTo, Safe, Passes, ends, safe_resolve, safe_then, safe_before, safe_looking, safe_going, safe_change, safe_with, safe_turn, safe_stop, extends_trans, extends_refl, safe}
use Rattle.sa_type_safety.proofs.SafeSteps.{safe_checked_depth, safe_checked_live}
use Rattle.sa_type_safety.proofs.Passing.{GivenWell, ArgThat, came_later}
use Rattle.sa_type_safety.proofs.PassedArgs.{PassedArgsWell, safe_brought, hands_later}
use Rattle.sa_type_safety.proofs.SafeRoutines.{IsSafe, FlowThat, spot_of, Pairs, pairs_of, filled_well, came_of, voids_well, vars_are_types, body_well, all_left, result_is}

-- ---- sites

module _ (w : Rows) (ks : List ObjectType) where
  -- an instance that is well typed at a site, with those inside it
  abbrev pub EntryWell : CodeEnv → ℕ → Instance → SiteInstances → Type 0
  EntryWell l site i inside = (f : TypedFeature) × InstanceWell w ks l site i f × SitesWell w ks (local_of w i.feature f) inside

  both_well : (l : CodeEnv) (b : Bool) (x y : SiteInstances) → SitesWell w ks l x → SitesWell w ks l y → SitesWell w ks l (if b then x else y)
  both_well l true x y h g = h
  both_well l false x y h g = g

  pub kept_well : (l : CodeEnv) (test : ℕ → Bool) (sites : SiteInstances) → SitesWell w ks l sites → SitesWell w ks l (retain_sites test sites)
  kept_well l test Empty h = tt
  kept_well l test (Entry n i inside others) h = both_well l (test n) _ _ (h.0, kept_well l test others h.1) (kept_well l test others h.1)

  pub added_well : (l : CodeEnv) (site : ℕ) (i : Instance) (inside sites : SiteInstances) → EntryWell l site i inside → SitesWell w ks l sites → SitesWell w ks l (insert_site site i inside sites)
  added_well l site i inside Empty e h = (e, tt)
  added_well l site i inside (Entry n j within others) e h =
      both_well l (nat_lt n site) _ _ (h.0, added_well l site i inside others e h.1) (e, h)

  -- the instance that is found at a site
  abbrev pub FoundWell : CodeEnv → ℕ → Option (Instance × SiteInstances) → Type 0
  FoundWell l site None = Unit {0}
  FoundWell l site (Some e) = EntryWell l site e.0 e.1

  found_one : (l : CodeEnv) (site n : ℕ) (b : Bool) (i : Instance) (inside : SiteInstances) (o : Option (Instance × SiteInstances)) → b ≡ (n == site) → EntryWell l n i inside → FoundWell l site o → FoundWell l site (if b then Some (i, inside) else o)
  found_one l site n true i inside o e h g = subst (λ m. EntryWell l m i inside) (eqb-true n site (sym e)) h
  found_one l site n false i inside o e h g = g

  pub found_well : (l : CodeEnv) (site : ℕ) (sites : SiteInstances) → SitesWell w ks l sites → FoundWell l site (find_instance site sites)
  found_well l site Empty h = tt
  found_well l site (Entry n i inside others) h = found_one l site n (n == site) i inside (find_instance site others) refl h.0 (found_well l site others h.1)

  -- ---- the variables of an instance that goes on

  anew_one : (modes : List Mode) (voids variables : List Value) (given : List (Option Value)) (vars : List ℕ) (m : Mode) (ty : ℕ) (u v : Value) (a : Option Value) → (all : List Value) × (set_anew modes voids variables given ≡ Some all) × HaveTypes w ks all vars → HasType w ks u ty → HasType w ks v ty → ArgThat (λ b. HasType w ks b ty) true m a → (all : List Value) × (set_anew (m ∷ modes) (u ∷ voids) (v ∷ variables) (a ∷ given) ≡ Some all) × HaveTypes w ks all (ty ∷ vars)
  anew_one modes voids variables given vars mode.Once ty u v a rest h g b = (v ∷ rest.0, ap (option_map (λ vs. v ∷ vs)) rest.1, (g, rest.2))
  anew_one modes voids variables given vars mode.Out ty u v None rest h g b = (u ∷ rest.0, ap (option_map (λ vs. u ∷ vs)) rest.1, (h, rest.2))
  anew_one modes voids variables given vars mode.Out ty u v (Some a) rest h g b = absurd b
  anew_one modes voids variables given vars mode.In ty u v None rest h g b = absurd b
  anew_one modes voids variables given vars mode.In ty u v (Some a) rest h g b = (a ∷ rest.0, ap (option_map (λ vs. a ∷ vs)) rest.1, (b, rest.2))
  anew_one modes voids variables given vars mode.Inout ty u v None rest h g b = absurd b
  anew_one modes voids variables given vars mode.Inout ty u v (Some a) rest h g b = (a ∷ rest.0, ap (option_map (λ vs. a ∷ vs)) rest.1, (b, rest.2))

  pub anew_well : (modes : List Mode) (vars : List ℕ) (own : List ParamType) (voids variables : List Value) (given : List (Option Value)) → Pairs modes vars own → HaveTypes w ks voids vars → HaveTypes w ks variables vars → GivenWell w ks true own given → (all : List Value) × (set_anew modes voids variables given ≡ Some all) × HaveTypes w ks all vars
  anew_well [] vars [] voids variables [] p h v g = (variables, refl, v)
  anew_well [] vars [] voids variables (a ∷ given) p h v g = absurd g
  anew_well [] vars (o ∷ own) voids variables given p h v g = absurd p
  anew_well (m ∷ modes) [] own voids variables given p h v g = absurd p
  anew_well (m ∷ modes) (ty ∷ vars) [] voids variables given p h v g = absurd p
  anew_well (m ∷ modes) (ty ∷ vars) (o ∷ own) [] variables given p h v g = absurd h
  anew_well (m ∷ modes) (ty ∷ vars) (o ∷ own) (u ∷ voids) [] given p h v g = absurd v
  anew_well (m ∷ modes) (ty ∷ vars) (o ∷ own) (u ∷ voids) (v ∷ variables) [] p h t g = absurd g
  anew_well (m ∷ modes) (ty ∷ vars) (o ∷ own) (u ∷ voids) (v ∷ variables) (a ∷ given) p h t g =
      anew_one modes voids variables given vars m ty u v a (anew_well modes vars own voids variables given p.1 h.1 t.1 g.1) h.0 t.0
      (subst (λ (q : ParamType). ArgThat (λ b. HasType w ks b q.ty) true q.mode a) p.0 g.0)

module _ {w : Rows} {p : Program} (k : ProgramFacts w p) (go : Continuation → Eval Completion) (safely : IsSafe w go) where
  -- ---- the site of an instance

  -- a site of what runs at a point, from which a loop can be left
  pub record CallSiteWell (ks : List ObjectType) (x : Point) (here : CallSite) : Type 0 where
    pub caller : ActivationWell w ks x.local x.place here.caller
    pub leaves : may_leave x.place ≡ true
    pub local : IsLocal w x.local

  pub station_later : {old new : List ObjectType} {x : Point} {here : CallSite} → HeapExtends old new → CallSiteWell old x here → CallSiteWell new x here
  station_later e h = record { caller = activation_later w e h.caller; leaves = h.leaves; local = h.local }

  -- an instance with other variables, and with another continuation
  waiting : {ks : List ObjectType} {l : CodeEnv} {site : ℕ} {i : Instance} {f : TypedFeature} → InstanceWell w ks l site i f → (variables : List Value) (r : Continuation) → HaveTypes w ks variables f.vars → ContinuationWell w (local_of w i.feature f) outside r → InstanceWell w ks l site (record i { variables = variables; left = r }) f
  waiting h variables r are left = record {
    is = h.is;
    iter = h.iter;
    self = h.self;
    variables = are;
    left = left;
    called = h.called;
    at = h.at;
    own = h.own;
    takes = h.takes;
    reached = h.reached;
  }

  going_on : {ks : List ObjectType} {l : CodeEnv} {site : ℕ} {i : Instance} {f : TypedFeature} → InstanceWell w ks l site i f → (variables : List Value) → HaveTypes w ks variables f.vars → InstanceWell w ks l site (record i { variables = variables }) f
  going_on h variables are = record {
    is = h.is;
    iter = h.iter;
    self = h.self;
    variables = are;
    left = h.left;
    called = h.called;
    at = h.at;
    own = h.own;
    takes = h.takes;
    reached = h.reached;
  }

  -- the instance is removed
  safe_ends : {base : List ObjectType} {x : Point} {A : Type 0} {P : List ObjectType → A → Type 0} (n : ℕ) (f : TypedFeature) (here : CallSite) (i : Instance) (event : ℕ → ℕ → ℕ → Event) (c : AbruptCause) → CallSiteWell base x here → ((s : State) → HeapExtends base (heap_typing s) → IsAt w x s → AbruptCauseWell w x c s) → SafeTo w base (spot_of w n f outside) x A P (instance_ends here i event >> stop c)
  safe_ends {x = x} n f here i event c h causes =
      safe_going _ (λ s e it. (
        extends_refl _,
        record {
          objects = it.objects;
          shareds = it.shareds;
          here = record {
            feature = h.caller.feature;
            self = type_later w e _ _ h.caller.self;
            variables = types_later w e _ _ h.caller.variables;
            sites = kept_well w _ x.local _ here.caller.sites (sites_later w e x.local here.caller.sites h.caller.sites);
            exception = exception_later w e _ _ h.caller.exception;
          };
        },
      ))
      (λ ks e. safe_stop c (λ s g it. causes s (extends_trans e g) it))

  -- ---- the run of an instance, up to its next value or its end

  safe_suspended : {base : List ObjectType} {x : Point} (here : CallSite) (i : Instance) (f : TypedFeature) (again : Bool) (own : List ParamType) (seen : Option ℕ) (h : PassedArgs) → CallSiteWell base x here → InstanceWell w base x.local here.site i f → Takes w f.class (target.Feature i.feature) own → PassedArgsWell w base x.local.frame.vars again f.class (target.Feature i.feature) own seen h → (flow : Completion) → FlowThat w (spot_of w i.feature f outside) i.left base flow → SafeTo w base (spot_of w i.feature f outside) x Value (λ ks v. HasTypeIf w ks seen v) (after_suspend p here i h flow)
  safe_suspended {base} {x} here i f again own seen h occurs is takes hands (Yielding v r) well =
      safe_looking _ (λ s g it.
      safe_going _ (λ t e at. (
        extends_refl _,
        record {
          objects = at.objects;
          shareds = at.shareds;
          here = record {
            feature = occurs.caller.feature;
            self = type_later w (extends_trans g e) _ _ occurs.caller.self;
            variables = types_later w (extends_trans g e) _ _ occurs.caller.variables;
            sites = added_well w (heap_typing t) x.local here.site (record i { variables = t.here.variables; left = r }) t.here.sites _
                (f, waiting (instance_later w (extends_trans g e) is) t.here.variables r at.here.variables well.0.3, at.here.sites)
                (kept_well w (heap_typing t) x.local _ here.caller.sites (sites_later w (extends_trans g e) x.local here.caller.sites occurs.caller.sites));
            exception = exception_later w (extends_trans g e) _ _ occurs.caller.exception;
          };
        },
      ))
      (λ ks e. safe_brought k here.at again f.class (target.Feature i.feature) own seen h (v, s.here.variables) occurs.local (hands_later k (extends_trans g e) hands)
      (type_if_later w (extends_trans g e) _ v (subst (λ o. HasTypeIf w base o v) (sym (result_is k i.feature f f.class is.is)) well.0.2))
      (came_later k e own s.here.variables (came_of w (heap_typing s) f.modes f.vars own s.here.variables (pairs_of w f.class i.feature f own is.is takes) it.here.variables))))
  safe_suspended here i f again own seen h occurs is takes hands (Returning v) well = absurd (true≢false (sym is.iter ∙ well.0.0))
  safe_suspended here i f again own seen h occurs is takes hands Done well = safe_ends i.feature f here i Quits Broke occurs (λ s e it. (it, occurs.leaves))
  safe_suspended here i f again own seen h occurs is takes hands Quitting well = safe_ends i.feature f here i Quits Broke occurs (λ s e it. (it, occurs.leaves))

  passes_through : {base : List ObjectType} {x : Point} (Q : List ObjectType → Value → Type 0) (here : CallSite) (i : Instance) (f : TypedFeature) → CallSiteWell base x here → Passes w base (spot_of w i.feature f outside) x Q (raised_through p here i)
  passes_through Q here i f occurs Broke s g c = absurd (true≢false (sym c.1))
  passes_through Q here i f occurs (Raised v kind at) s g c =
      ends (safe_ends i.feature f here i Abandon (Raised v kind at) (station_later g occurs) (λ t e it. (it, type_later w e v _ c.1))) s (extends_refl _) c.0
  passes_through Q here i f occurs (Failed kind at) s g c = halt _ s (extends_refl _) tt
  passes_through Q here i f occurs InputFailed s g c = halt _ s (extends_refl _) tt

  pub safe_run_instance : {base : List ObjectType} {x : Point} (here : CallSite) (i : Instance) (f : TypedFeature) (inside : SiteInstances) (again : Bool) (own : List ParamType) (seen : Option ℕ) (h : PassedArgs) → CallSiteWell base x here → InstanceWell w base x.local here.site i f → SitesWell w base (local_of w i.feature f) inside → Takes w f.class (target.Feature i.feature) own → PassedArgsWell w base x.local.frame.vars again f.class (target.Feature i.feature) own seen h → Safe w base x Value (λ ks v. HasTypeIf w ks seen v) (run_instance p go here h i inside)
  safe_run_instance {x = x} here i f inside again own seen h occurs is sites takes hands =
      safe_going _ (λ s e it. (
        extends_refl _,
        record {
          objects = it.objects;
          shareds = it.shareds;
          here = record {
            feature = refl;
            self = type_later w e i.self f.class is.self;
            variables = types_later w e i.variables f.vars is.variables;
            sites = sites_later w e (local_of w i.feature f) inside sites;
            exception = tt;
          };
        },
      ))
      (λ ks e. safe_resolve {y = spot_of w i.feature f outside} (safely i.feature f is.is outside i.left is.left ks)
      (λ js flow g well. safe_suspended here i f again own seen h (station_later (extends_trans e g) occurs) (instance_later w (extends_trans e g) is) takes (hands_later k (extends_trans e g) hands) flow well)
      (passes_through _ here i f (station_later e occurs)))

  -- ---- starts and resumptions

  pub safe_begun : {base : List ObjectType} {x : Point} (here : CallSite) (n : ℕ) (f : TypedFeature) (c : ResolvedCall) (own : List ParamType) (seen : Option ℕ) (h : PassedArgs) (called : Site) → CallSiteWell base x here → slice_get w.features n ≡ Some f → IsTrue f.iter → HasType w base c.self f.class → slice_get x.local.frame.sites here.site ≡ Some called → Takes w f.class (target.Feature n) own → IsCallee w base called.called (x.local.bound_at here.site) f.class (target.Feature n) own c.through → PassedArgsWell w base x.local.frame.vars false f.class (target.Feature n) own seen h → Safe w base x Value (λ ks v. HasTypeIf w ks seen v) (begin_instance p go here n (feature_of f) c h)
  safe_begun {base} {x} here n f c own seen h called occurs is iter me site takes reached hands =
      let start = filled_well w base f.modes f.vars own _ h.given (pairs_of w f.class n f own is takes) (voids_well k base f.vars (vars_are_types k n f is)) hands.given in
      safe_with _ start.0 start.1
      (safe_before (safe_checked_depth k.well here.at here.caller)
      (λ ks e. safe_before (safe_checked_live k.well here.at)
      (λ js g. safe_then {P = λ ks number. Unit {0}} (safe (λ s i it. give s.started _ (extends_refl _) (record { objects = it.objects; shareds = it.shareds; here = it.here }) tt))
      (λ hs number i tt'.
      let later = extends_trans e (extends_trans g i) in
      safe_run_instance here (record { number = number; feature = n; self = c.self; through = c.through; variables = start.0; left = all_of (block_of f.body) }) f Empty false own seen h
      (station_later later occurs)
      (record {
        is = is;
        iter = iter;
        self = type_later w later c.self f.class me;
        variables = types_later w later start.0 f.vars start.2;
        left = all_left k (local_of w n f) outside (block_of f.body) (body_well k n f is);
        called = called;
        at = site;
        own = own;
        takes = takes;
        reached = reached_later w later _ _ f.class (target.Feature n) own c.through reached;
      })
      tt takes (hands_later k later hands)))))

  pub safe_resume : {base : List ObjectType} {x : Point} (here : CallSite) (i : Instance) (f : TypedFeature) (inside : SiteInstances) (seen : Option ℕ) (h : PassedArgs) → CallSiteWell base x here → (is : InstanceWell w base x.local here.site i f) → SitesWell w base (local_of w i.feature f) inside → PassedArgsWell w base x.local.frame.vars true f.class (target.Feature i.feature) is.own seen h → Safe w base x Value (λ ks v. HasTypeIf w ks seen v) (resume p go here i inside h)
  safe_resume {base} {x} here i f inside seen h occurs is sites hands =
      let anew = anew_well w base f.modes f.vars is.own _ i.variables h.given (pairs_of w f.class i.feature f is.own is.is is.takes) (voids_well k base f.vars (vars_are_types k i.feature f is.is)) is.variables hands.given in
      safe_with _ (feature_of f) (k.feature_at i.feature f is.is)
      (safe_turn (safe_with _ anew.0 anew.1
      (safe_before (safe_checked_depth k.well here.at here.caller)
      (λ ks e. safe_before (safe_change _ (λ s g it. (extends_refl _, record { objects = it.objects; shareds = it.shareds; here = it.here })))
      (λ js g. safe_run_instance here (record i { variables = anew.0 }) f inside true is.own seen h (station_later (extends_trans e g) occurs)
      (going_on (instance_later w (extends_trans e g) is) anew.0 (types_later w (extends_trans e g) anew.0 f.vars anew.2))
      (sites_later w (extends_trans e g) (local_of w i.feature f) inside sites) is.takes (hands_later k (extends_trans e g) hands))))))
