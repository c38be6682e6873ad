-- The laws of whole runs.
use Rattle.std.proofs.Common.{◌≡◌, ℕ, suc, ◌+◌, ◌-◌, List, [], ◌∷◌, Option, Some, None, refl, sym, ap, subst, ◌∙◌, append-nil, arith}
use Rattle.sa_typed.specs.declared.program.TypedProgram.{TypedProgram}
use Rattle.sa_typed.specs.Tree.{Expr}
use Rattle.sa_semantics.specs.Sequence.{Normal, Abrupt, OutOfTurns, GoesWrong, last_state}
use Rattle.sa_semantics.specs.Value.{Value}
use Rattle.sa_semantics.specs.Program.{Program, SharedRow, program_of}
use Rattle.sa_semantics.specs.State.{State, Continuation, Input, Broke, Raised, Failed, InputFailed, Completion, Outcome}
use Rattle.sa_semantics.specs.Steps.{Eval}
use Rattle.sa_semantics.specs.Run.{initialise, initialise_from, whole_run, initial, outcome, end_of, run_program, output}
use Rattle.sa_semantics.specs.Statements.{run_to}
use Rattle.sa_semantics.specs.Law.{IsOver, IsSpent, IsPrefix, IsSteady, IsGrowing, IsSpending}
use Rattle.sa_semantics.proofs.Alike.{Alike, turns_alone, alike_then, alike_before, steady_pure, steady_change, steady_or_stuck}
use Rattle.sa_semantics.proofs.Laws.{Keeps, keeps, IsFair, fair}
use Rattle.sa_semantics.proofs.AlikeCalls.{steady_set_shared, alike_routine}
use Rattle.sa_semantics.proofs.AlikeStatements.{alike_evaluate, alike_run_to}

module _ (p : Program) (level : ℕ) (go to : Continuation → Eval Completion) (alike : (r : Continuation) → Alike level (go r) (to r)) where
  alike_initialise : (k class : ℕ) (start : Option Expr) → Alike (suc level) (initialise p go k class start) (initialise p to k class start)
  alike_initialise k class None = steady_pure _
  alike_initialise k class (Some e) =
      turns_alone (alike_then (alike_before (steady_change _ (λ d s. refl) (λ s. refl) (λ s. refl)) (alike_evaluate p level go to alike e)) (λ v. steady_set_shared k v))

  alike_initialise_from : (k : ℕ) (shareds : List SharedRow) → Alike (suc level) (initialise_from p go k shareds) (initialise_from p to k shareds)
  alike_initialise_from k [] = steady_pure _
  alike_initialise_from k (s ∷ more) = alike_before (alike_initialise k s.class s.start) (alike_initialise_from (k + 1) more)

  alike_whole_run : Alike (suc level) (whole_run p go) (whole_run p to)
  alike_whole_run =
      alike_before (alike_initialise_from 0 p.shareds) (alike_then (steady_or_stuck _) (λ main. alike_then (alike_routine p level go to alike _ _ _ _) (λ r. steady_pure _)))

-- the run with more turns, and the run itself
alike_runs : (p : Program) (n d : ℕ) → Alike (suc n) (whole_run p (run_to p n)) (whole_run p (run_to p (n + d)))
alike_runs p n d = alike_whole_run p n _ _ (alike_run_to n d p)

with_turns : (p : Program) (input : Input) (room n d : ℕ) → Keeps d (outcome p input room n) (outcome p input room (n + d))
unfolding outcome
with_turns p input room n d = keeps (alike_runs p n d) d (initial p input room n)

same_end : (d : ℕ) (o q : Outcome Value) → Keeps d o q → IsOver (end_of o) → end_of q ≡ end_of o
same_end d (Normal v s) q e over = ap end_of e
same_end d (Abrupt (Raised v kind at) s) q e over = ap end_of e
same_end d (Abrupt (Failed kind at) s) q e over = ap end_of e
same_end d (Abrupt InputFailed s) q e over = ap end_of e
same_end d (Abrupt Broke s) q e over = ap end_of e
same_end d (OutOfTurns s) q e over = absurd over
same_end d (GoesWrong s) q e over = ap end_of e

steady_by : (p : Program) (input : Input) (room n d : ℕ) → IsOver (run_program p input room n) → run_program p input room (n + d) ≡ run_program p input room n
steady_by p input room n d over = same_end d _ _ (with_turns p input room n d) over

pub steady : (core : TypedProgram) → IsSteady core
steady core input room n m h over =
    let e : n + (m - n) ≡ m = omega (arith, h) in
    subst (λ k. run_program (program_of core) input room k ≡ run_program (program_of core) input room n) e (steady_by (program_of core) input room n (m - n) over)

-- ---- outputs

abbrev last_output : Outcome Value → List ℕ
last_output o = (last_state o).output

grown_output : (d : ℕ) (o q : Outcome Value) → Keeps d o q → IsPrefix (last_state o).output (last_state q).output
grown_output d (Normal v s) q e = ([], ap last_output e ∙ sym (append-nil s.output))
grown_output d (Abrupt c s) q e = ([], ap last_output e ∙ sym (append-nil s.output))
grown_output d (OutOfTurns s) q e = e
grown_output d (GoesWrong s) q e = ([], ap last_output e ∙ sym (append-nil s.output))

pub growing : (core : TypedProgram) → IsGrowing core
growing core input room n m h =
    let e : n + (m - n) ≡ m = omega (arith, h) in
    subst (λ k. IsPrefix (output core input room n) (output core input room k)) e (grown_output (m - n) _ _ (with_turns (program_of core) input room n (m - n)))

-- ---- turns

none_left : (s : State) (o : Outcome Value) → IsFair s o → IsSpent (end_of o) → (last_state o).turns ≡ 0
none_left s (OutOfTurns t) e spent = e
none_left s (Normal v t) e spent = absurd spent
none_left s (Abrupt (Raised v kind at) t) e spent = absurd spent
none_left s (Abrupt (Failed kind at) t) e spent = absurd spent
none_left s (Abrupt InputFailed t) e spent = absurd spent
none_left s (Abrupt Broke t) e spent = absurd spent
none_left s (GoesWrong t) e spent = absurd spent

fair_run : (p : Program) (input : Input) (room n : ℕ) → IsFair (initial p input room n) (outcome p input room n)
unfolding outcome
fair_run p input room n = fair (alike_runs p n 0) (initial p input room n) (omega arith)

pub spending : (core : TypedProgram) → IsSpending core
spending core input room n spent = none_left (initial (program_of core) input room n) _ (fair_run (program_of core) input room n) spent
