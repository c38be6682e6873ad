-- Whole runs of a well-typed AST never get stuck.
use Rattle.std.proofs.Common.{◌≡◌, ◌≢◌, ℕ, zero, suc, ◌+◌, Bool, true, false, not, ◌==◌, List, [], ◌∷◌, map, length, Option, Some, None, slice_get, option_map, option_and_then, is_some, inr, refl, sym, ap, subst, ◌∙◌, true≢false, eqb-true, arith}
use Rattle.std.specs.List.{list_all}
use Rattle.std.specs.Option.{option_map_or}
use Rattle.std.proofs.lemmas.Bool.{eq-eqb}
use Rattle.std.proofs.lemmas.Option.{same_Some, none-some, slice_get-map}
use Rattle.sa_typed.specs.declared.feature.TypedFeature.{TypedFeature}
use Rattle.sa_typed.specs.declared.feature.Target.TheVariants as target
use Rattle.sa_typed.specs.declared.program.TypedProgram.{TypedProgram}
use Rattle.sa_typed.specs.declared.program.TypedShared.{TypedShared}
use Rattle.sa_ast.specs.declared.class.ClassKind.{ClassKind}
use Rattle.sa_ast.specs.declared.class.ClassKind.TheVariants as kind
use Rattle.sa_typed.specs.declared.program.TypeDef.{TypeDef}
use Rattle.sa_typed.specs.Copy.{option_expr_of}
use Rattle.sa_typed.specs.Tree as tree
use Rattle.sa_typed.specs.Tree.{Expr, VoidValue, SelfRef, Var, Exception, IsVoid, New, NewArray, Array, Call, IterCall, Bind, Reversed, And, Or, Box, Exprs, no_exprs, expr, Arg, Variable, Open, Args, no_args, arg}
use Rattle.sa_typing.specs.declared.expr_type.ExprType.{ExprType}
use Rattle.sa_typing.specs.declared.context.TypingContext.{TypingContext}
use Rattle.sa_typing.specs.Expressions.{is_assignable_expr, type_of_expr}
use Rattle.sa_typing.specs.Forms.{is_assignable_type}
use Rattle.sa_typing.specs.ExprType.{is_assignable}
use Rattle.sa_typing.specs.Contexts.{Env}
use Rattle.sa_typing.specs.declared.expr_type.ParamType.{ParamType}
use Rattle.sa_typing.specs.Targets.{count_if, feature_arity, target_arity}
use Rattle.sa_typing.specs.Sites.{expr_sites, exprs_sites, arg_sites, args_sites}
use Rattle.sa_typing.specs.Builtins.{ob_type}
use Rattle.sa_typing.specs.Features.{is_concrete_class, is_status, main_fits, shared_env, starts_well, well_shared}
use Rattle.sa_typing.specs.Contexts.{outside}
use Rattle.sa_typing.specs.Rows.{Rows, is_abstract, is_immutable, is_immutable_kind, is_reference_kind, is_type}
use Rattle.sa_typing.specs.WellTyped.{IsWellTyped, rows_of}
use Rattle.sa_semantics.specs.Program.{Program, SharedRow, program_of, shared_row, feature_of, void_of}
use Rattle.sa_semantics.specs.Sequence.{Normal, Abrupt, OutOfTurns, resolve_outcome, resolve, ◌>>=◌, stop, pure, at_index}
use Rattle.sa_semantics.specs.State.{Input, Continuation, SiteInstances, Empty, Entry, State, AbruptCause, Broke, Raised, Failed, InputFailed, Outcome, Completion, Done}
use Rattle.sa_semantics.specs.Steps.{Eval}
use Rattle.sa_semantics.specs.Value.{Value, Void}
use Rattle.sa_semantics.specs.Calls.{routine}
use Rattle.sa_semantics.specs.Run.{End, Stuck, initial, initialise, initialise_from, whole_run, outcome, end_of}
use Rattle.sa_semantics.specs.Statements.{resume_at, run_to}
use Rattle.sa_type_safety.specs.Typing.{Each, ObjectType, heap_typing, SitesWell, HaveTypes, EndsInStop, CompletionWell, shared_local}
use Rattle.sa_type_safety.proofs.Facts as facts
use Rattle.sa_type_safety.proofs.Facts.{first_of, second_of, not_true}
use Rattle.sa_type_safety.proofs.Settled.{setting}
use Rattle.sa_type_safety.proofs.ProgramFacts.{ProgramFacts}
use Rattle.sa_type_safety.proofs.Safe.{Any, Point, IsAt, AbruptCauseWell, SafeOutcome, give, halt, exhaust, SafeTo, Safe, safe, ends, safe_turn, safe_then, safe_going, safe_with, safe_pure, extends_refl}
use Rattle.sa_type_safety.specs.Law.{NeverStuck}
use Rattle.sa_type_safety.proofs.Passing.{GivenWell}
use Rattle.sa_type_safety.proofs.SafeRoutines.{FlowThat, IsSafe, safe_routine}
use Rattle.sa_type_safety.proofs.Worlds.{each_append}
use Rattle.sa_type_safety.proofs.SafeStatements.{safe_left}
use Rattle.sa_type_safety.proofs.SafeExpressions.{safe_evaluate}
use Rattle.sa_type_safety.proofs.SafeAttributes.{safe_set_shared}
use Rattle.sa_type_safety.proofs.SafeArguments.{given_goes}
use Rattle.sa_type_safety.proofs.Unreached.{never_done}

module _ {w : Rows} {p : Program} (k : ProgramFacts w p) where
  unended : {base : List ObjectType} {y : Point} (r : Continuation) (o : Outcome Completion) → (EndsInStop r → (t : State) → o ≡ Normal Done t → ⊥) → SafeOutcome w base y Completion (λ ks flow. CompletionWell w ks y.local y.place flow) o → SafeOutcome w base y Completion (FlowThat w y r) o
  unended r _ h (give flow s e it t) = give flow s e it (t, λ stops same. h stops s (ap (λ i. Normal i s) same))
  unended r _ h (halt c s e t) = halt c s e t
  unended r _ h (exhaust s) = exhaust s

  -- to each level a continuation is run safely
  pub run_safely : (level : ℕ) → IsSafe w (run_to p level)
  run_safely zero n f is at r h base = safe (λ s e it. exhaust s)
  run_safely (suc level) n f is at r h base =
      safe (λ s e it. unended r (resume_at p (run_to p level) r s) (λ stops t. never_done p (run_to p level) r stops s t) (ends (safe_left k (run_to p level) (run_safely level) n f is base at r h) s e it))

-- ---- before a feature runs

-- the point where the initialiser of a shared of a class runs, and `main` is called
abbrev shared_spot : Rows → ℕ → Point
shared_spot w class = record { local = shared_local w class; place = outside }

-- an end of a run: with a value where no feature runs, or for a cause that ends a program
data Idle (w : Rows) (A : Type 0) : Outcome A → Type 0 where
  idle_gives : (a : A) (s : State) (class : ℕ) → IsAt w (shared_spot w class) s → Idle w A (Normal a s)
  idle_stops : (c : AbruptCause) (s : State) → c ≢ Broke → Idle w A (Abrupt c s)
  idle_exhausts : (s : State) → Idle w A (OutOfTurns s)

-- from any state in which no feature runs
data FromIdle (w : Rows) (A : Type 0) (f : Eval A) : Type 0 where
  from_idle : ((class : ℕ) (s : State) → IsAt w (shared_spot w class) s → Idle w A (f s)) → FromIdle w A f

idle : {w : Rows} {A : Type 0} {f : Eval A} → FromIdle w A f → (class : ℕ) (s : State) → IsAt w (shared_spot w class) s → Idle w A (f s)
idle (from_idle h) class s it = h class s it

idle_resolved : {w : Rows} {A B : Type 0} {o : Outcome A} (h : A → Eval B) → Idle w A o → ((a : A) → FromIdle w B (h a)) → Idle w B (resolve_outcome o h stop)
idle_resolved h (idle_gives a s class it) m = idle (m a) class s it
idle_resolved h (idle_stops c s n) m = idle_stops c s n
idle_resolved h (idle_exhausts s) m = idle_exhausts s

idle_then : {w : Rows} {A B : Type 0} {f : Eval A} (h : A → Eval B) → FromIdle w A f → ((a : A) → FromIdle w B (h a)) → FromIdle w B (f >>= h)
unfolding resolve
idle_then h f m = from_idle (λ class s it. idle_resolved h (idle f class s it) m)

is_broke : AbruptCause → Bool
is_broke Broke = true
is_broke _ = false

not_broke : (w : Rows) (class : ℕ) (c : AbruptCause) (s : State) → AbruptCauseWell w (shared_spot w class) c s → c ≢ Broke
unfolding is_broke
not_broke w class Broke s h e = true≢false (sym h.1)
not_broke w class (Raised v kind at) s h e = true≢false (sym (ap is_broke e))
not_broke w class (Failed kind at) s h e = true≢false (sym (ap is_broke e))
not_broke w class InputFailed s h e = true≢false (sym (ap is_broke e))

idle_ends : {w : Rows} {base : List ObjectType} {A : Type 0} {P : List ObjectType → A → Type 0} {o : Outcome A} (class : ℕ) → SafeOutcome w base (shared_spot w class) A P o → Idle w A o
idle_ends class (give a s e it h) = idle_gives a s class it
idle_ends {w} class (halt c s e h) = idle_stops c s (not_broke w class c s h)
idle_ends class (exhaust s) = idle_exhausts s

reference_loose : (n : ClassKind) → is_reference_kind n ≡ true → is_immutable_kind n ≡ false
reference_loose kind.Reference e = refl
reference_loose _ e = absurd (true≢false (sym e))

-- ---- an initialiser has no sites

unsited : (w : Rows) (a b : ℕ) (ks : List ObjectType) (sites : SiteInstances) → SitesWell w ks (shared_local w a) sites → SitesWell w ks (shared_local w b) sites
unsited w a b ks Empty h = tt
unsited w a b ks (Entry site i inside others) h = absurd (none-some h.0.1.called h.0.1.at)

module _ (w : Rows) (class : ℕ) (at : TypingContext) (Q : ℕ × ℕ → Type 0) where
  abbrev f : Env
  f = shared_env w class

  mutual
    unsited_expr : (e : Expr) → Each Q (expr_sites f at e)
    unsited_expr (tree.Int z) = tt
    unsited_expr (tree.Truth b) = tt
    unsited_expr (tree.Char byte) = tt
    unsited_expr (tree.Text bytes) = tt
    unsited_expr (VoidValue ty) = tt
    unsited_expr SelfRef = tt
    unsited_expr (Var var) = tt
    unsited_expr Exception = tt
    unsited_expr (IsVoid of) = unsited_expr of
    unsited_expr (New ty pos) = tt
    unsited_expr (NewArray ty size pos) = unsited_expr size
    unsited_expr (Array ty elements pos) = unsited_exprs elements
    unsited_expr (Call called on list pos) = each_append Q (expr_sites f at on) (args_sites f at list) (unsited_expr on) (unsited_args list)
    unsited_expr (IterCall site on list pos) = each_append Q (expr_sites f at on) (args_sites f at list) (unsited_expr on) (unsited_args list)
    unsited_expr (Bind called on list ty pos) = each_append Q (expr_sites f at on) (args_sites f at list) (unsited_expr on) (unsited_args list)
    unsited_expr (Reversed target first second pos) = each_append Q (expr_sites f at first) (expr_sites f at second) (unsited_expr first) (unsited_expr second)
    unsited_expr (And first second) = each_append Q (expr_sites f at first) (expr_sites f at second) (unsited_expr first) (unsited_expr second)
    unsited_expr (Or first second) = each_append Q (expr_sites f at first) (expr_sites f at second) (unsited_expr first) (unsited_expr second)
    unsited_expr (Box ty of pos) = unsited_expr of

    unsited_exprs : (list : Exprs) → Each Q (exprs_sites f at list)
    unsited_exprs no_exprs = tt
    unsited_exprs (expr e more) = each_append Q (expr_sites f at e) (exprs_sites f at more) (unsited_expr e) (unsited_exprs more)

    unsited_arg : (a : Arg) → Each Q (arg_sites f at a)
    unsited_arg (tree.Value mode e) = unsited_expr e
    unsited_arg (Variable mode var) = tt
    unsited_arg Open = tt

    unsited_args : (list : Args) → Each Q (args_sites f at list)
    unsited_args no_args = tt
    unsited_args (arg a more) = each_append Q (arg_sites f at a) (args_sites f at more) (unsited_arg a) (unsited_args more)

module _ (core : TypedProgram) (well : IsWellTyped core) where
  abbrev w : Rows
  w = rows_of core

  abbrev p : Program
  p = program_of core

  k : ProgramFacts (rows_of core) (program_of core)
  k = setting core well

  -- ---- initialisers

  shareds_well : (n : ℕ) (s : TypedShared) → slice_get core.shareds n ≡ Some s → well_shared w s ≡ true
  shareds_well n s e = facts.shared_at well n s e

  goes_there : (class : ℕ) (s : TypedShared) (e : Expr) (o : Option ExprType) → is_assignable_type w s.ty o ≡ true → (g : ExprType) × (o ≡ Some g) × (is_assignable w g s.ty ≡ true)
  goes_there class s e None h = absurd (true≢false (sym h))
  goes_there class s e (Some g) h = (g, refl, h)

  -- an initialiser runs with the void of its class as self
  initialised : (level n : ℕ) (s : TypedShared) (e : Expr) → slice_get core.shareds n ≡ Some s → is_type w s.class ≡ true → is_assignable_expr (shared_env w s.class) outside s.ty e ≡ true → (class : ℕ) (base : List ObjectType) → SafeTo w base (shared_spot w class) (shared_spot w s.class) (Unit {0}) Any (initialise p (run_to p level) n s.class (Some e))
  initialised level n s e at c h class base =
      let found = goes_there class s e (type_of_expr (shared_env w s.class) outside e) h in
      safe_turn (safe_then {y = shared_spot w s.class}
      (safe_going _ (λ st i it. (
        extends_refl _,
        record {
          objects = it.objects;
          shareds = it.shareds;
          here = record { feature = it.here.feature; self = k.void_is (heap_typing st) s.class c; variables = it.here.variables; sites = unsited w class s.class (heap_typing st) st.here.sites it.here.sites; exception = tt };
        },
      ))
      (λ ks i. safe_evaluate k (run_to p level) (run_safely k level) s.class [] [] false None None (λ site. None) (inr (s.class, refl)) ks outside e found.0 found.1 (unsited_expr w s.class outside _ e)))
      (λ ks v i t. safe_set_shared k n s.ty v (slice_get-map (λ (r : TypedShared). r.ty) core.shareds n ∙ ap (option_map (λ (r : TypedShared). r.ty)) at) (given_goes k ks found.0 s.ty v found.2 t)))

  idle_expression : (level n : ℕ) (s : TypedShared) (e : Option Expr) → slice_get core.shareds n ≡ Some s → is_type w s.class ≡ true → starts_well w s.class s.ty e ≡ true → FromIdle w (Unit {0}) (initialise p (run_to p level) n s.class e)
  idle_expression level n s None at c h = from_idle (λ class st it. idle_gives tt st class it)
  idle_expression level n s (Some e) at c h = from_idle (λ class st it. idle_ends s.class (ends (initialised level n s e at c h class (heap_typing st)) st (extends_refl _) it))

  -- the class of a shared is a type of the program
  class_is_type : (n : ℕ) (s : TypedShared) → slice_get core.shareds n ≡ Some s → (is_type w s.class ≡ true) × (starts_well w s.class s.ty (option_expr_of s.start) ≡ true)
  class_is_type n s e =
      let rest = second_of (is_type w s.ty) _ (shareds_well n s e) in
      let found = facts.some_that _ (slice_get core.types s.class) (first_of (is_concrete_class w s.class) _ rest) in
      (ap is_some found.1, second_of (is_concrete_class w s.class) _ rest)

  idle_initialise : (level n : ℕ) (list : List TypedShared) → ((i : ℕ) (s : TypedShared) → slice_get list i ≡ Some s → slice_get core.shareds (n + i) ≡ Some s) → FromIdle w (Unit {0}) (initialise_from p (run_to p level) n (map shared_row list))
  idle_initialise level n [] h = from_idle (λ class st it. idle_gives tt st class it)
  idle_initialise level n (s ∷ more) h =
      let here : slice_get core.shareds n ≡ Some s = subst (λ i. slice_get core.shareds i ≡ Some s) (omega arith) (h 0 s refl) in
      let typed = class_is_type n s here in
      idle_then _ (idle_expression level n s (option_expr_of s.start) here typed.0 typed.1)
      (λ u. idle_initialise level (n + 1) more (λ i r e. subst (λ j. slice_get core.shareds j ≡ Some r) (omega arith) (h (suc i) r e)))

  -- ---- whole runs

  empty_own : (own : List ParamType) → length own ≡ 0 → own ≡ []
  empty_own [] e = refl
  empty_own (o ∷ own) e = absurd (omega (arith, e))

  safe_main : (level : ℕ) (class : ℕ) (base : List ObjectType) → Safe w base (shared_spot w class) Value Any (at_index p.features p.main >>= (λ main. routine p (run_to p level) main.pos p.main Void [] >>= (λ r. pure r.0)))
  safe_main level class base =
      let found = facts.some_that (main_fits w) (slice_get core.features core.main) well.main in
      let f = found.0 in
      let rest = second_of (not f.iter) _ found.2 in
      let last = second_of (is_status f.result) _ (second_of (length f.modes == 0) _ rest) in
      let own_type = facts.some_that (λ (t : TypeDef). is_reference_kind t.kind) (slice_get core.types f.class) last in
      let loose : is_immutable w f.class ≡ false =
      ap (λ o. option_map_or (λ (t : TypeDef). is_immutable_kind t.kind) o false) own_type.1 ∙ reference_loose own_type.0.kind own_type.2 in
      let arity : target_arity w f.class (target.Feature core.main) ≡ Some (length f.modes) =
      ap (option_and_then (λ (g : TypedFeature). feature_arity g f.class)) found.1 ∙ ap (λ b. count_if (length f.modes) b) (eq-eqb f.class f.class refl) in
      let taken = k.taken f.class (target.Feature core.main) (ap is_some arity) in
      let none : taken.0 ≡ [] = empty_own taken.0 (sym (same_Some (length f.modes) (length taken.0) (sym arity ∙ taken.1.arity)) ∙ eqb-true (length f.modes) 0 (first_of (length f.modes == 0) _ rest)) in
      safe_with _ (feature_of f) (k.feature_at core.main f found.1)
      (safe_then (safe_routine k (run_to p level) (run_safely k level) _ core.main f taken.0 Void [] found.1 taken.1 (not_true f.iter (first_of (not f.iter) _ found.2)) loose (subst (λ ps. GivenWell w base false ps []) (sym none) tt))
      (λ ks r i t. safe_pure r.0 (λ js j. tt)))

  idle_main : (level : ℕ) → FromIdle w Value (whole_run p (run_to p level))
  idle_main level =
      idle_then _ (idle_initialise level 0 core.shareds (λ i s e. subst (λ j. slice_get core.shareds j ≡ Some s) (omega arith) e))
      (λ u. from_idle (λ class st it. idle_ends class (ends (safe_main level class (heap_typing st)) st (extends_refl _) it)))

  -- ---- the first state

  shared_voids : (ks : List ObjectType) (list : List TypedShared) → list_all (well_shared w) list ≡ true → HaveTypes w ks (map (λ (r : SharedRow). void_of p r.ty) (map shared_row list)) (map (λ (r : TypedShared). r.ty) list)
  shared_voids ks [] e = tt
  shared_voids ks (s ∷ more) e =
      (k.void_is ks s.ty (first_of (is_type w s.ty) _ (first_of (well_shared w s) _ e)), shared_voids ks more (second_of (well_shared w s) _ e))

  first_well : (input : Input) (room turns : ℕ) → IsAt w (shared_spot w ob_type) (initial p input room turns)
  first_well input room turns = record {
    objects = tt;
    shareds = shared_voids [] core.shareds well.shareds;
    here = record { feature = refl; self = k.abstract_loose ob_type (first_of (is_abstract w ob_type) _ well.given); variables = tt; sites = tt; exception = tt };
  }

-- ---- no run gets stuck

is_stuck : End → Bool
is_stuck Stuck = true
is_stuck _ = false

end_moves : {w : Rows} (o : Outcome Value) → Idle w Value o → is_stuck (end_of o) ≡ false
unfolding is_stuck
end_moves _ (idle_gives a s class it) = refl
end_moves _ (idle_stops Broke s h) = absurd (h refl)
end_moves _ (idle_stops (Raised v kind at) s h) = refl
end_moves _ (idle_stops (Failed kind at) s h) = refl
end_moves _ (idle_stops InputFailed s h) = refl
end_moves _ (idle_exhausts s) = refl

pub never_stuck : (core : TypedProgram) → NeverStuck core
unfolding outcome is_stuck
never_stuck core well input room turns e =
    true≢false (sym (ap is_stuck e) ∙ end_moves (whole_run (program_of core) (run_to (program_of core) turns) (initial (program_of core) input room turns)) (idle (idle_main core well turns) ob_type (initial (program_of core) input room turns) (first_well core well input room turns)))
