-- The run of a routine is safe, if what a turn begins is.
use Rattle.std.proofs.Common.{◌≡◌, ◌≢◌, ℕ, suc, ◌-◌, Bool, true, false, ◌&&◌, ◌||◌, List, [], ◌∷◌, map, length, Option, Some, None, slice_get, option_map, option_and_then, is_none, refl, sym, ap, subst, ◌∙◌, true≢false, eqb-true, ◌==◌, arith}
use Rattle.std.specs.List.{list_all}
use Rattle.std.specs.Option.{option_map_or}
use Rattle.std.proofs.lemmas.Option.{same_Some, none-some}
use Rattle.sa_ast.specs.declared.pos.Pos.{Pos}
use Rattle.sa_ast.specs.declared.ty.Mode.{Mode}
use Rattle.sa_ast.specs.declared.ty.Mode.TheVariants as mode
use Rattle.sa_typed.specs.declared.feature.TypedFeature.{TypedFeature}
use Rattle.sa_typed.specs.declared.feature.Target.TheVariants as target
use Rattle.sa_typed.specs.declared.stmt.TypedStmt.{TypedStmt}
use Rattle.sa_typed.specs.Copy.{block_of, stmt_of}
use Rattle.sa_typed.specs.Tree.{Stmts, no_stmts, stmt}
use Rattle.sa_typing.specs.declared.expr_type.ParamType.{ParamType}
use Rattle.sa_typing.specs.declared.context.TypingContext.{TypingContext}
use Rattle.sa_typing.specs.Rows.{Rows, is_type}
use Rattle.sa_typing.specs.Features.{are_types, is_concrete_class, ends_in_stop, ends_well, feature_env, has_well_header, has_types, is_stop, within_limits}
use Rattle.sa_typing.specs.Contexts.{outside}
use Rattle.sa_typing.specs.Sites.{agree_on_types, stmt_sites, stmts_sites}
use Rattle.sa_typing.specs.Statements.{well_stmt, well_stmts}
use Rattle.sa_typing.specs.Targets.{count_if, feature_arity, feature_parameter, target_result}
use Rattle.sa_semantics.specs.Program.{Program, feature_of, void_of}
use Rattle.sa_semantics.specs.Value.{Value, Void}
use Rattle.sa_semantics.specs.Sequence.{◌>>◌}
use Rattle.sa_semantics.specs.State.{Continuation, all_of, Activation, Broke, Raised, Failed, InputFailed, Completion, Done, Quitting, Yielding, Returning}
use Rattle.sa_semantics.specs.Steps.{Eval, leave}
use Rattle.sa_semantics.specs.Calls.{fill_arguments, after_return, after_raise, enter_routine, routine}
use Rattle.sa_type_safety.specs.Typing.{ObjectType, heap_typing, HeapExtends, CodeEnv, local_of, HasType, HasTypeIf, HaveTypes, Takes, StmtsWell, ContinuationWell, EndsBy, EndsInStop, ActivationWell, CompletionWell}
use Rattle.sa_type_safety.proofs.Facts as facts
use Rattle.sa_type_safety.proofs.Facts.{first_of, second_of, one_of}
use Rattle.sa_type_safety.proofs.ProgramFacts.{ProgramFacts}
use Rattle.sa_type_safety.proofs.Worlds.{type_later, type_if_later, types_later, activation_later, each_split}
use Rattle.sa_type_safety.proofs.Safe.{Point, halt, SafeTo, Safe, Passes, ends, safe_resolve, safe_before, safe_looking, safe_going, safe_with, safe_if, safe_turn, safe_pure, safe_stop, extends_trans, extends_refl}
use Rattle.sa_type_safety.proofs.SafeSteps.{safe_checked_depth}
use Rattle.sa_type_safety.proofs.Passing.{GivenWell, ArgThat, given_later, Came, came_later}

-- ---- what a turn begins

abbrev pub spot_of : Rows → ℕ → TypedFeature → TypingContext → Point
spot_of w k f at = record { local = local_of w k f; place = at }

-- The continuation of a body of a feature is run well. Where its last statement is a fault, its end isn't reached.
abbrev pub FlowThat : Rows → Point → Continuation → List ObjectType → Completion → Type 0
FlowThat w x r ks flow = CompletionWell w ks x.local x.place flow × (EndsInStop r → flow ≢ Done)

abbrev pub IsSafe : Rows → (Continuation → Eval Completion) → Type 0
IsSafe w go = (k : ℕ) (f : TypedFeature) → slice_get w.features k ≡ Some f → (at : TypingContext) (r : Continuation) → ContinuationWell w (local_of w k f) at r → (base : List ObjectType) → Safe w base (spot_of w k f at) Completion (FlowThat w (spot_of w k f at) r) (go r)

-- ---- parameters and variables of a feature

abbrev pub Pairs : List Mode → List ℕ → List ParamType → Type 0
Pairs [] vars [] = Unit {0}
Pairs (m ∷ modes) (ty ∷ vars) (o ∷ own) = (o ≡ record { mode = m; ty = ty }) × Pairs modes vars own
Pairs _ vars own = ⊥

pairs_from : (modes : List Mode) (vars : List ℕ) (own : List ParamType) → length modes ≡ length own → ((place : ℕ) → option_and_then (λ (m : Mode). option_map (λ ty. record { mode = m; ty = ty }) (slice_get vars place)) (slice_get modes place) ≡ slice_get own place) → Pairs modes vars own
pairs_from [] vars [] n e = tt
pairs_from [] vars (o ∷ own) n e = absurd (none-some o (e 0))
pairs_from (m ∷ modes) vars [] n e = absurd (omega (arith, n))
pairs_from (m ∷ modes) [] (o ∷ own) n e = absurd (none-some o (e 0))
pairs_from (m ∷ modes) (ty ∷ vars) (o ∷ own) n e = (sym (same_Some _ o (e 0)), pairs_from modes vars own (omega (arith, n)) (λ place. e (suc place)))

pub count_of : (count : ℕ) (b : Bool) (n : ℕ) → count_if count b ≡ Some n → (b ≡ true) × (count ≡ n)
count_of count true n e = (refl, same_Some count n e)
count_of count false n e = absurd (none-some n e)

module _ (w : Rows) where
  arity_of : (class k : ℕ) (f : TypedFeature) (own : List ParamType) → slice_get w.features k ≡ Some f → Takes w class (target.Feature k) own → (f.class == class) ≡ true × (length f.modes ≡ length own)
  arity_of class k f own e takes = count_of (length f.modes) (f.class == class) (length own) (sym (ap (option_and_then (λ (g : TypedFeature). feature_arity g class)) e) ∙ takes.arity)

  pub class_is : (class k : ℕ) (f : TypedFeature) (own : List ParamType) → slice_get w.features k ≡ Some f → Takes w class (target.Feature k) own → f.class ≡ class
  class_is class k f own e takes = eqb-true f.class class (arity_of class k f own e takes).0

  pub pairs_of : (class k : ℕ) (f : TypedFeature) (own : List ParamType) → slice_get w.features k ≡ Some f → Takes w class (target.Feature k) own → Pairs f.modes f.vars own
  pairs_of class k f own e takes =
      pairs_from f.modes f.vars own (arity_of class k f own e takes).1 (λ place. sym (ap (option_and_then (λ (g : TypedFeature). feature_parameter g place)) e) ∙ takes.each place)

  filled_one : (ks : List ObjectType) (modes : List Mode) (voids : List Value) (given : List (Option Value)) (vars : List ℕ) (m : Mode) (ty : ℕ) (u : Value) (v : Option Value) → (variables : List Value) × (fill_arguments modes voids given ≡ Some variables) × HaveTypes w ks variables vars → HasType w ks u ty → ArgThat (λ a. HasType w ks a ty) false m v → (variables : List Value) × (fill_arguments (m ∷ modes) (u ∷ voids) (v ∷ given) ≡ Some variables) × HaveTypes w ks variables (ty ∷ vars)
  filled_one ks modes voids given vars mode.Out ty u None rest h g = (u ∷ rest.0, ap (option_map (λ vs. u ∷ vs)) rest.1, (h, rest.2))
  filled_one ks modes voids given vars mode.Out ty u (Some v) rest h g = absurd g
  filled_one ks modes voids given vars mode.In ty u None rest h g = absurd g
  filled_one ks modes voids given vars mode.In ty u (Some v) rest h g = (v ∷ rest.0, ap (option_map (λ vs. v ∷ vs)) rest.1, (g, rest.2))
  filled_one ks modes voids given vars mode.Once ty u None rest h g = absurd g
  filled_one ks modes voids given vars mode.Once ty u (Some v) rest h g = (v ∷ rest.0, ap (option_map (λ vs. v ∷ vs)) rest.1, (g, rest.2))
  filled_one ks modes voids given vars mode.Inout ty u None rest h g = absurd g
  filled_one ks modes voids given vars mode.Inout ty u (Some v) rest h g = (v ∷ rest.0, ap (option_map (λ vs. v ∷ vs)) rest.1, (g, rest.2))

  -- a callee's variables at its entry are of their types
  pub filled_well : (ks : List ObjectType) (modes : List Mode) (vars : List ℕ) (own : List ParamType) (voids : List Value) (given : List (Option Value)) → Pairs modes vars own → HaveTypes w ks voids vars → GivenWell w ks false own given → (variables : List Value) × (fill_arguments modes voids given ≡ Some variables) × HaveTypes w ks variables vars
  filled_well ks [] vars [] voids [] p h g = (voids, refl, h)
  filled_well ks [] vars [] voids (v ∷ given) p h g = absurd g
  filled_well ks [] vars (o ∷ own) voids given p h g = absurd p
  filled_well ks (m ∷ modes) [] own voids given p h g = absurd p
  filled_well ks (m ∷ modes) (ty ∷ vars) [] voids given p h g = absurd p
  filled_well ks (m ∷ modes) (ty ∷ vars) (o ∷ own) [] given p h g = absurd h
  filled_well ks (m ∷ modes) (ty ∷ vars) (o ∷ own) (u ∷ voids) [] p h g = absurd g
  filled_well ks (m ∷ modes) (ty ∷ vars) (o ∷ own) (u ∷ voids) (v ∷ given) p h g =
      filled_one ks modes voids given vars m ty u v (filled_well ks modes vars own voids given p.1 h.1 g.1) h.0 (subst (λ (q : ParamType). ArgThat (λ a. HasType w ks a q.ty) false q.mode v) p.0 g.0)

  -- the variables of a routine that has ended
  pub came_of : (ks : List ObjectType) (modes : List Mode) (vars : List ℕ) (own : List ParamType) (values : List Value) → Pairs modes vars own → HaveTypes w ks values vars → Came w ks own values
  came_of ks [] vars [] values p h = tt
  came_of ks [] vars (o ∷ own) values p h = absurd p
  came_of ks (m ∷ modes) [] own values p h = absurd p
  came_of ks (m ∷ modes) (ty ∷ vars) [] values p h = absurd p
  came_of ks (m ∷ modes) (ty ∷ vars) (o ∷ own) [] p h = absurd h
  came_of ks (m ∷ modes) (ty ∷ vars) (o ∷ own) (v ∷ values) p h = (subst (λ (q : ParamType). HasType w ks v q.ty) (sym p.0) h.0, came_of ks modes vars own values p.1 h.1)

-- ---- a body whose last statement is a fault

ends_by : (a : TypedStmt) (more : List TypedStmt) → option_map_or (λ s. is_stop (stmt_of s)) (slice_get (a ∷ more) (length more)) false ≡ true → EndsBy (stmt_of a) (all_of (block_of more))
ends_by a [] e = e
ends_by a (b ∷ more) e = ends_by b more e

pub ends_stopped : (body : List TypedStmt) → ends_in_stop body ≡ true → EndsInStop (all_of (block_of body))
ends_stopped [] e = absurd (true≢false (sym e))
ends_stopped (a ∷ more) e =
    let place : suc (length more) - 1 ≡ length more = omega arith in
    ends_by a more (subst (λ n. option_map_or (λ s. is_stop (stmt_of s)) (slice_get (a ∷ more) n) false ≡ true) place e)

module _ {w : Rows} {p : Program} (k : ProgramFacts w p) where
  pub voids_well : (ks : List ObjectType) (types : List ℕ) → are_types w types ≡ true → HaveTypes w ks (map (void_of p) types) types
  voids_well ks [] e = tt
  voids_well ks (ty ∷ types) e = (k.void_is ks ty (first_of (is_type w ty) (list_all (is_type w) types) e), voids_well ks types (second_of (is_type w ty) (list_all (is_type w) types) e))

  -- ---- what a well-typed feature is

  module _ (n : ℕ) (f : TypedFeature) (is : slice_get w.features n ≡ Some f) where
    feature_well : (has_well_header w f && (well_stmts (feature_env w f) outside (block_of f.body) && agree_on_types (length f.sites) (stmts_sites (feature_env w f) outside (block_of f.body)))) ≡ true
    feature_well = facts.feature_at k.well n f is

    shaped : (has_types w f && (within_limits f && ends_well f)) ≡ true
    shaped = first_of (has_well_header w f) _ feature_well

    pub vars_are_types : are_types w f.vars ≡ true
    vars_are_types =
        first_of (are_types w f.vars) _ (second_of (is_concrete_class w f.class) _ (first_of (has_types w f) _ shaped))

    pub ends_as_it_has_to : (f.iter || (is_none f.result || ends_in_stop f.body)) ≡ true
    ends_as_it_has_to = second_of (within_limits f) _ (second_of (has_types w f) _ shaped)

    pub body_well : StmtsWell w (local_of w n f) outside (block_of f.body)
    body_well = record {
      are = first_of (well_stmts (feature_env w f) outside (block_of f.body)) _ (second_of (has_well_header w f) _ feature_well);
      sites = k.agreed n f is;
    }

  -- statements that are well typed one after another
  pub all_left : (l : CodeEnv) (at : TypingContext) (list : Stmts) → StmtsWell w l at list → ContinuationWell w l at (all_of list)
  all_left l at no_stmts h = tt
  all_left l at (stmt a more) h =
      let sites = each_split _ (stmt_sites l.frame at a) (stmts_sites l.frame at more) h.sites in (
        record { is = first_of (well_stmt l.frame at a) (well_stmts l.frame at more) h.are; sites = sites.0 },
        all_left l at more (record { are = second_of (well_stmt l.frame at a) (well_stmts l.frame at more) h.are; sites = sites.1 }),
      )

  -- ---- the end of a routine

  pub result_is : (n : ℕ) (f : TypedFeature) (class : ℕ) → slice_get w.features n ≡ Some f → target_result w class (target.Feature n) ≡ f.result
  result_is n f class is = ap (option_and_then (λ (g : TypedFeature). g.result)) is

  -- back to the caller
  safe_left : {base : List ObjectType} {x : Point} {A : Type 0} {P : List ObjectType → A → Type 0} {g : Eval A} (n : ℕ) (f : TypedFeature) (caller : Activation) → ActivationWell w base x.local x.place caller → ((ks : List ObjectType) → HeapExtends base ks → SafeTo w ks x x A P g) → SafeTo w base (spot_of w n f outside) x A P (leave n caller >> g)
  safe_left n f caller here m =
      safe_going _ (λ t e it. (extends_refl _, record { objects = it.objects; shareds = it.shareds; here = activation_later w e here })) m

  done_none : (i : Bool) (r : Option ℕ) (b : Bool) → i ≡ false → (i || (is_none r || b)) ≡ true → (b ≡ true → ⊥) → r ≡ None
  done_none true r b e h never = absurd (true≢false e)
  done_none false None b e h never = refl
  done_none false (Some ty) b e h never = absurd (never h)

  safe_returned : {base : List ObjectType} {x : Point} (n : ℕ) (f : TypedFeature) (own : List ParamType) (class : ℕ) (caller : Activation) → slice_get w.features n ≡ Some f → Takes w class (target.Feature n) own → f.iter ≡ false → ActivationWell w base x.local x.place caller → (flow : Completion) → FlowThat w (spot_of w n f outside) (all_of (block_of f.body)) base flow → SafeTo w base (spot_of w n f outside) x (Value × List Value) (λ ks r. HasTypeIf w ks (target_result w class (target.Feature n)) r.0 × Came w ks own r.1) (after_return n caller flow)
  safe_returned {base} n f own class caller is takes routine here (Returning v) well =
      safe_looking _ (λ s g it. safe_left n f caller (activation_later w g here)
      (λ ks e. safe_pure (v, s.here.variables) (λ js h. (
        type_if_later w (extends_trans g (extends_trans e h)) _ v (subst (λ r. HasTypeIf w base r v) (sym (result_is n f class is)) well.0.1),
        came_later k (extends_trans e h) own s.here.variables (came_of w (heap_typing s) f.modes f.vars own s.here.variables (pairs_of w class n f own is takes) it.here.variables),
      ))))
  safe_returned n f own class caller is takes routine here Done well =
      let none : f.result ≡ None = done_none f.iter f.result (ends_in_stop f.body) routine (ends_as_it_has_to n f is) (λ e. well.1 (ends_stopped f.body e) refl) in
      safe_looking _ (λ s g it. safe_left n f caller (activation_later w g here)
      (λ ks e. safe_pure (Void, s.here.variables) (λ js h. (
        subst (λ r. HasTypeIf w js r Void) (sym (result_is n f class is ∙ none)) tt,
        came_later k (extends_trans e h) own s.here.variables (came_of w (heap_typing s) f.modes f.vars own s.here.variables (pairs_of w class n f own is takes) it.here.variables),
      ))))
  safe_returned n f own class caller is takes routine here Quitting well = absurd (true≢false (sym well.0.0 ∙ routine))
  safe_returned n f own class caller is takes routine here (Yielding v r) well = absurd (true≢false (sym well.0.0 ∙ routine))

  passes_out : {base : List ObjectType} {x : Point} {A : Type 0} (Q : List ObjectType → A → Type 0) (n : ℕ) (f : TypedFeature) (caller : Activation) → ActivationWell w base x.local x.place caller → Passes w base (spot_of w n f outside) x Q (after_raise n caller)
  passes_out Q n f caller here Broke s g c = absurd (true≢false (sym c.1))
  passes_out Q n f caller here (Raised v kind at) s g c =
      ends (safe_left n f caller (activation_later w g here) (λ ks e. safe_stop (Raised v kind at) (λ t h it. (it, type_later w (extends_trans e h) v _ c.1)))) s (extends_refl _) c.0
  passes_out Q n f caller here (Failed kind at) s g c = halt _ s (extends_refl _) tt
  passes_out Q n f caller here InputFailed s g c = halt _ s (extends_refl _) tt

  -- ---- the run of a routine

  module _ (go : Continuation → Eval Completion) (safely : IsSafe w go) where
    safe_entered : {base : List ObjectType} {x : Point} (at : Pos) (n : ℕ) (f : TypedFeature) (own : List ParamType) (self : Value) (given : List (Option Value)) (caller : Activation) → slice_get w.features n ≡ Some f → Takes w f.class (target.Feature n) own → f.iter ≡ false → HasType w base self f.class → GivenWell w base false own given → ActivationWell w base x.local x.place caller → Safe w base x (Value × List Value) (λ ks r. HasTypeIf w ks (target_result w f.class (target.Feature n)) r.0 × Came w ks own r.1) (enter_routine p go at n (feature_of f) self given caller)
    safe_entered {base} {x} at n f own self given caller is takes routine me h here =
        let start = filled_well w base f.modes f.vars own (map (void_of p) f.vars) given (pairs_of w f.class n f own is takes) (voids_well base f.vars (vars_are_types n f is)) h in
        safe_with _ start.0 start.1
        (safe_before (safe_checked_depth k.well at caller)
        (λ ks e. safe_going _
        (λ t g it. (
          extends_refl _,
          record {
            objects = it.objects;
            shareds = it.shareds;
            here = record {
              feature = refl;
              self = type_later w (extends_trans e g) self f.class me;
              variables = types_later w (extends_trans e g) start.0 f.vars start.2;
              sites = tt;
              exception = tt;
            };
          },
        ))
        (λ js g. safe_resolve {y = spot_of w n f outside} (safely n f is outside (all_of (block_of f.body)) (all_left (local_of w n f) outside (block_of f.body) (body_well n f is)) js)
        (λ hs flow i well. safe_returned n f own f.class caller is takes routine (activation_later w (extends_trans e (extends_trans g i)) here) flow well)
        (passes_out _ n f caller (activation_later w (extends_trans e g) here)))))

    pub safe_routine : {base : List ObjectType} {x : Point} (at : Pos) (n : ℕ) (f : TypedFeature) (own : List ParamType) (self : Value) (given : List (Option Value)) → slice_get w.features n ≡ Some f → Takes w f.class (target.Feature n) own → f.iter ≡ false → HasType w base self f.class → GivenWell w base false own given → Safe w base x (Value × List Value) (λ ks r. HasTypeIf w ks (target_result w f.class (target.Feature n)) r.0 × Came w ks own r.1) (routine p go at n self given)
    safe_routine at n f own self given is takes routine me h =
        safe_with _ (feature_of f) (k.feature_at n f is)
        (safe_looking _ (λ s g it. safe_if f.iter (λ t. absurd (true≢false (sym t ∙ routine)))
        (λ t. safe_turn (safe_entered at n f own self given s.here is takes routine (type_later w g self f.class me) (given_later k g false own given h) it.here))))
