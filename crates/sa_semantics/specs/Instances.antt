-- Instances of iters: their sites, their starts, resumptions and ends.
use Rattle.std.specs.Prelude.{ℕ, ◌+◌, ◌-◌, Bool, false, not, ◌==◌, nat_lt, if◌then◌else◌, List}
use Rattle.std.specs.Prelude.{[], ◌∷◌, ◌++◌, length, slice_get, Option, Some, None, option_map}
use Rattle.sa_ast.specs.declared.pos.Pos.{Pos}
use Rattle.sa_ast.specs.declared.ty.Mode.{Mode}
use Rattle.sa_ast.specs.declared.ty.Mode.TheVariants as mode
use Rattle.sa_typed.specs.declared.feature.Site.{Site}
use Rattle.sa_typed.specs.declared.feature.Target.{Target}
use Rattle.sa_typed.specs.declared.feature.Target.TheVariants as target
use Rattle.sa_semantics.specs.Sequence.{resolve, ◌>>=◌, ◌>>◌, look, change, stop, or_stuck, at_index, Normal, stuck}
use Rattle.sa_semantics.specs.Value.{Value}
use Rattle.sa_semantics.specs.Program.{Program, Feature}
use Rattle.sa_semantics.specs.State.{Continuation, all_of, SiteInstances, Empty, Entry, Instance, Activation, Event, Start, Resume}
use Rattle.sa_semantics.specs.State.{Yields, Quits, Abandon, Leave, State, AbruptCause, Broke, Raised, Completion, Yielding, Returning}
use Rattle.sa_semantics.specs.Steps.{Eval, turn, enter, checked_depth, checked_live}
use Rattle.sa_semantics.specs.Calls.{ResolvedCall, PassedArgs, copy_results, fill_arguments, void_variables}

-- ---- sites

abbrev pub find_instance : ℕ → SiteInstances → Option (Instance × SiteInstances)
find_instance site Empty = None
find_instance site (Entry k i inside others) = if k == site then Some (i, inside) else find_instance site others

abbrev pub retain_sites : (ℕ → Bool) → SiteInstances → SiteInstances
retain_sites test Empty = Empty
retain_sites test (Entry k i inside others) = if test k then Entry k i inside (retain_sites test others) else retain_sites test others

abbrev pub remove_site : ℕ → SiteInstances → SiteInstances
remove_site site = retain_sites (λ k. not (k == site))

abbrev pub insert_site : ℕ → Instance → SiteInstances → SiteInstances → SiteInstances
insert_site site i inside Empty = Entry site i inside Empty
insert_site site i inside (Entry k j within others) =
    if nat_lt k site then Entry k j within (insert_site site i inside others) else Entry site i inside (Entry k j within others)

-- the end events of instances at sites of a feature, by site: for each instance those inside it first, and then its own
abbrev pub abandon_events : ℕ → SiteInstances → List Event
abandon_events feature Empty = []
abandon_events feature (Entry k i inside others) = abandon_events i.feature inside ++ Abandon feature k i.number ∷ abandon_events feature others

-- ---- loops and their sites

abbrev pub is_owned : ℕ → Option Site → Bool
is_owned loop None = false
is_owned loop (Some site) = site.owner == loop

-- the site is one of the loop
abbrev pub is_in : List Site → ℕ → ℕ → Bool
is_in sites loop site = is_owned loop (slice_get sites site)

abbrev pub clear_sites : List Site → ℕ → State → State
clear_sites sites loop s = record s { here = record (s.here) { sites = retain_sites (λ k. not (is_in sites loop k)) s.here.sites } }

abbrev pub end_sites : ℕ → List Site → ℕ → State → State
end_sites feature sites loop s =
    let gone = abandon_events feature (retain_sites (is_in sites loop) s.here.sites) in
    clear_sites sites loop (record s { events = s.events ++ gone; live = s.live - length gone })

-- the number of the running feature
abbrev pub this_feature : Eval ℕ
this_feature = look (λ s. s.here.feature) >>= or_stuck

-- the loop has no instances
abbrev pub clear_loop : Program → ℕ → Eval (Unit {0})
clear_loop p loop = do
  k ← this_feature
  f ← at_index p.features k
  change (clear_sites f.sites loop)

-- the loop's instances end
abbrev pub end_loop : Program → ℕ → Eval (Unit {0})
end_loop p loop = do
  k ← this_feature
  f ← at_index p.features k
  change (end_sites k f.sites loop)

-- ---- the arguments of a resumption

-- An iter's variables at a resumption, with the void ones of its arguments: `once` arguments stay, `out` ones are void again,
-- and the others are set anew.
abbrev pub set_anew : List Mode → (voids variables : List Value) → List (Option Value) → Option (List Value)
set_anew (mode.Once ∷ modes) (u ∷ voids) (v ∷ variables) (_ ∷ given) = option_map (λ rest. v ∷ rest) (set_anew modes voids variables given)
set_anew (mode.Out ∷ modes) (u ∷ voids) (v ∷ variables) (None ∷ given) =
    option_map (λ rest. u ∷ rest) (set_anew modes voids variables given)
set_anew (mode.Out ∷ modes) (u ∷ voids) (v ∷ variables) (Some w ∷ given) = None
set_anew (_ ∷ modes) (u ∷ voids) (v ∷ variables) (Some w ∷ given) = option_map (λ rest. w ∷ rest) (set_anew modes voids variables given)
set_anew [] voids variables [] = Some variables
set_anew _ _ _ _ = None

-- ---- a call site of an iter: the site of a feature, in the caller's activation

pub record CallSite : Type 0 where
  pub caller : Activation
  pub feature : ℕ
  pub site : ℕ
  pub at : Pos

-- the instance is removed, and the caller goes on
abbrev pub instance_ends : CallSite → Instance → (ℕ → ℕ → ℕ → Event) → Eval (Unit {0})
instance_ends here i event = change (λ s. record s {
  here = record (here.caller) { sites = remove_site here.site here.caller.sites };
  live = s.live - 1;
  events = s.events ++ event here.feature here.site i.number ∷ [];
  trail = s.trail ++ Leave i.feature ∷ [];
})

-- the instance is at its site again, with its continuation
abbrev pub instance_waits : CallSite → Instance → Continuation → Eval (Unit {0})
instance_waits here i left = change (λ s. record s {
  here =
      record (here.caller) {
        sites = insert_site here.site (record i { variables = s.here.variables; left = left })
            s.here.sites (remove_site here.site here.caller.sites);
      };
  events = s.events ++ Yields here.feature here.site i.number ∷ [];
  trail = s.trail ++ Leave i.feature ∷ [];
})

module _ (p : Program) (here : CallSite) (i : Instance) where
  -- what follows the run of an instance
  abbrev pub after_suspend : PassedArgs → Completion → Eval Value
  after_suspend h (Yielding v left) = do
    variables ← look (λ s. s.here.variables)
    instance_waits here i left
    copy_results p here.at h (v, variables)
  after_suspend h (Returning v) = stuck
  after_suspend h _ = instance_ends here i Quits >> stop Broke

  abbrev pub raised_through : AbruptCause → Eval Value
  raised_through (Raised exception kind at) = instance_ends here i Abandon >> stop (Raised exception kind at)
  raised_through Broke = stuck
  raised_through cause = stop cause

-- ---- starts and resumptions, each of which spends a turn

module _ (p : Program) (go : Continuation → Eval Completion) (here : CallSite) where
  abbrev pub run_instance : PassedArgs → Instance → SiteInstances → Eval Value
  run_instance h i inside = do
    enter i.feature (record {
      feature = Some i.feature;
      self = i.self;
      variables = i.variables;
      sites = inside;
      exception = None;
      depth = here.caller.depth + 1;
    })
    resolve (go i.left) (after_suspend p here i h) (raised_through p here i)

  -- a new instance, by its number
  abbrev pub add_instance : Eval ℕ
  add_instance = λ s.
      Normal s.started
      (record s { live = s.live + 1; started = s.started + 1; events = s.events ++ Start here.feature here.site s.started ∷ [] })

  abbrev pub begin_instance : ℕ → Feature → ResolvedCall → PassedArgs → Eval Value
  begin_instance k f c h = do
    variables ← or_stuck (fill_arguments f.modes (void_variables p f) h.given)
    checked_depth here.at here.caller
    checked_live here.at
    number ← add_instance
    run_instance h
        (record { number = number; feature = k; self = c.self; through = c.through; variables = variables; left = all_of f.body }) Empty

  abbrev pub start_of : Target → ResolvedCall → PassedArgs → Eval Value
  start_of (target.Feature k) c h = do
    f ← at_index p.features k
    if f.iter then turn (begin_instance k f c h) else stuck
  start_of _ c h = stuck

  abbrev pub start : ResolvedCall → PassedArgs → Eval Value
  start c h = start_of c.target c h

  abbrev pub continue_instance : Feature → Instance → SiteInstances → PassedArgs → Eval Value
  continue_instance f i inside h = do
    variables ← or_stuck (set_anew f.modes (void_variables p f) i.variables h.given)
    checked_depth here.at here.caller
    change (λ s. record s { events = s.events ++ Resume here.feature here.site i.number ∷ [] })
    run_instance h (record i { variables = variables }) inside

  abbrev pub resume : Instance → SiteInstances → PassedArgs → Eval Value
  resume i inside h = do
    f ← at_index p.features i.feature
    turn (continue_instance f i inside h)
