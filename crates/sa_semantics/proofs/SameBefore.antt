-- Without a protect, a run is the same where no fault can be caught.
use Rattle.std.proofs.Common.{◌≡◌, ℕ, ◌+◌, List, [], ◌∷◌, map, Option, Some, None, refl, sym, ap, subst, ◌∙◌}
use Rattle.sa_ast.specs.Faults.{fault_number}
use Rattle.sa_typed.specs.declared.program.TypedProgram.{TypedProgram}
use Rattle.sa_typed.specs.Tree.{Expr}
use Rattle.sa_semantics.specs.Sequence.{Abrupt}
use Rattle.sa_semantics.specs.Value.{Value, Void}
use Rattle.sa_semantics.specs.Program.{Program, SharedRow, before, program_of, void_of}
use Rattle.sa_semantics.specs.Protects.{HasNoProtect}
use Rattle.sa_semantics.specs.State.{State, Continuation, Empty, Input, AbruptCause, Completion, Outcome}
use Rattle.sa_semantics.specs.Steps.{Eval}
use Rattle.sa_semantics.specs.Run.{Stopped, set_self, initialise, initialise_from, whole_run, initial, outcome, end_of, run_program}
use Rattle.sa_semantics.specs.Statements.{run_to}
use Rattle.sa_semantics.specs.Law.{IsSameBefore}
use Rattle.sa_semantics.proofs.Agree.{Halts, both_broke, both_raised, parted, both_failed, both_in_fault, Meet, give, halt, exhaust, stick, Any, Agree, meets, agree_then, agree_before, agree_turn, agree_pure, agree_change, agree_or_stuck}
use Rattle.sa_semantics.proofs.AgreeSteps.{same_void}
use Rattle.sa_semantics.proofs.AgreeCalls.{AgreeFrom, agree_set_shared, agree_routine}
use Rattle.sa_semantics.proofs.AgreeStatements.{agree_evaluate, agree_run_to}

agree_set_self : {feature : Option ℕ} (p : Program) (class : ℕ) → Agree feature (set_self (void_of p class)) (set_self (void_of (before p) class))
agree_set_self {feature} p class = subst (λ voids. Agree feature (set_self (void_of p class)) (set_self (voids class))) (sym (same_void p)) (agree_change _ (λ s e. e))

module _ (p : Program) (none : HasNoProtect p) (go to : Continuation → Eval Completion) (alike : AgreeFrom p go to) where
  agree_initialise : {feature : Option ℕ} (k class : ℕ) (start : Option Expr) → Agree feature (initialise p go k class start) (initialise (before p) to k class start)
  agree_initialise k class None = agree_pure _
  agree_initialise k class (Some e) =
      agree_turn (agree_then (agree_before (agree_set_self p class) (agree_evaluate p none go to alike e)) (λ v. agree_set_shared k v))

  agree_initialise_from : {feature : Option ℕ} (k : ℕ) (shareds : List SharedRow) → Agree feature (initialise_from p go k shareds) (initialise_from (before p) to k shareds)
  agree_initialise_from k [] = agree_pure _
  agree_initialise_from k (s ∷ more) = agree_before (agree_initialise k s.class s.start) (agree_initialise_from (k + 1) more)

  agree_whole_run : {feature : Option ℕ} → Agree feature (whole_run p go) (whole_run (before p) to)
  agree_whole_run =
      agree_before (agree_initialise_from 0 p.shareds) (agree_then (agree_or_stuck _) (λ main. agree_then (agree_routine p none go to alike _ _ _ _) (λ r. agree_pure _)))

-- ---- the ends of runs

same_stop : {feature : Option ℕ} {c d : AbruptCause} {s t : State} → Halts feature c s d t → end_of (Abrupt d t) ≡ end_of (Abrupt c s)
same_stop (both_broke s e) = refl
same_stop (both_raised v kind at s e) = refl
same_stop (parted v kind at s t e same) = ap (λ output. Stopped output (fault_number kind) at) (sym same)
same_stop (both_failed kind at s) = refl
same_stop (both_in_fault s) = refl

same_end : {feature : Option ℕ} {o q : Outcome Value} → Meet feature Value Any o q → end_of q ≡ end_of o
same_end (give v s x e) = refl
same_end (halt c d s t e) = same_stop e
same_end (exhaust s) = refl
same_end (stick s) = refl

same_initial : (p : Program) (input : Input) (room turns : ℕ) → initial (before p) input room turns ≡ initial p input room turns
same_initial p input room turns =
    ap (λ voids. record {
      objects = [];
      shareds = map (λ s. voids s.ty) p.shareds;
      output = [];
      input = input;
      room = room;
      turns = turns;
      live = 0;
      started = 0;
      events = [];
      trail = [];
      here = record { feature = None; self = Void; variables = []; sites = Empty; exception = None; depth = 0 };
    }) (same_void p)

-- from the same state, and then from that where no fault can be caught
same_run : (p : Program) → HasNoProtect p → (input : Input) (room turns : ℕ) → run_program (before p) input room turns ≡ run_program p input room turns
unfolding outcome
same_run p none input room turns =
    ap (λ s. end_of (whole_run (before p) (run_to (before p) turns) s)) (same_initial p input room turns)
    ∙ same_end (meets (agree_whole_run p none (run_to p turns) (run_to (before p) turns) (agree_run_to turns p none)) (initial p input room turns) (refl, tt))

pub same_before : (core : TypedProgram) → IsSameBefore core
same_before core none input room turns = same_run (program_of core) none input room turns
