-- The end of a body whose last statement is a fault isn't reached.
use Rattle.std.proofs.Common.{◌≡◌, ℕ, Bool, true, false, if◌then◌else◌, refl, sym, ap, ◌∙◌, true≢false}
use Rattle.std.specs.Prelude.{◌&&◌, nat_le}
use Rattle.sa_ast.specs.declared.fault_kind.FaultKind.{FaultKind}
use Rattle.sa_ast.specs.declared.pos.Pos.{Pos}
use Rattle.sa_typed.specs.Tree.{Stmt, Loop, Fault, Stmts}
use Rattle.sa_typing.specs.Features.{is_stop}
use Rattle.sa_semantics.specs.Program.{Program}
use Rattle.sa_semantics.specs.Sequence.{Normal, Abrupt, OutOfTurns, GoesWrong, resolve_outcome, resolve, ◌>>=◌, stop}
use Rattle.sa_semantics.specs.State.{Continuation, Finished, Then, InLoop, State, AbruptCause, Outcome, Completion, Done, Quitting, Yielding, Returning}
use Rattle.sa_semantics.specs.Steps.{Eval, fault, can_be_caught, object_size}
use Rattle.sa_semantics.specs.Statements.{after_statement, run_then, resume_at}
use Rattle.sa_type_safety.specs.Typing.{EndsBy, EndsInStop}

-- ---- steps that give nothing, or something else than the end

is_given : {A : Type 0} → Outcome A → Bool
is_given (Normal a s) = true
is_given _ = false

is_done : Outcome Completion → Bool
is_done (Normal Done s) = true
is_done _ = false

data Fails (A : Type 0) (f : Eval A) : Type 0 where
  fails : ((s : State) → is_given (f s) ≡ false) → Fails A f

data Unended (f : Eval Completion) : Type 0 where
  unended : ((s : State) → is_done (f s) ≡ false) → Unended f

given_not : {A : Type 0} {f : Eval A} → Fails A f → (s : State) → is_given (f s) ≡ false
given_not (fails h) s = h s

done_not : {f : Eval Completion} → Unended f → (s : State) → is_done (f s) ≡ false
done_not (unended h) s = h s

resolved_fails : {A B : Type 0} (o : Outcome A) (h : A → Eval B) → ((a : A) → Fails B (h a)) → is_given (resolve_outcome o h stop) ≡ false
unfolding is_given
resolved_fails (Normal a s) h m = given_not (m a) s
resolved_fails (Abrupt c s) h m = refl
resolved_fails (OutOfTurns s) h m = refl
resolved_fails (GoesWrong s) h m = refl

fails_then : {A B : Type 0} (f : Eval A) (h : A → Eval B) → ((a : A) → Fails B (h a)) → Fails B (f >>= h)
unfolding resolve
fails_then f h m = fails (λ s. resolved_fails (f s) h m)

fails_if : {A : Type 0} (b : Bool) (f g : Eval A) → Fails A f → Fails A g → Fails A (if b then f else g)
fails_if true f g x y = x
fails_if false f g x y = y

fails_stop : {A : Type 0} (c : AbruptCause) → Fails A (stop c)
unfolding is_given
fails_stop c = fails (λ s. refl)

fails_fault : {A : Type 0} (p : Program) (kind : FaultKind) (at : Pos) → Fails A (fault p kind at)
fails_fault p kind at =
    fails_then _ _ (λ room. fails_if (p.faults_raise && can_be_caught kind && nat_le (object_size 2 0) room) _ _ (fails_then _ _ (λ u. fails_then _ _ (λ n. fails_stop _))) (fails_stop _))

resolved_unended : {A : Type 0} (o : Outcome A) (h : A → Eval Completion) → ((a : A) → Unended (h a)) → is_done (resolve_outcome o h stop) ≡ false
unfolding is_done
resolved_unended (Normal a s) h m = done_not (m a) s
resolved_unended (Abrupt c s) h m = refl
resolved_unended (OutOfTurns s) h m = refl
resolved_unended (GoesWrong s) h m = refl

unended_then : {A : Type 0} (f : Eval A) (h : A → Eval Completion) → ((a : A) → Unended (h a)) → Unended (f >>= h)
unfolding resolve
unended_then f h m = unended (λ s. resolved_unended (f s) h m)

resolved_failed : {A : Type 0} (o : Outcome A) (h : A → Eval Completion) → is_given o ≡ false → is_done (resolve_outcome o h stop) ≡ false
unfolding is_given is_done
resolved_failed (Normal a s) h e = absurd (true≢false e)
resolved_failed (Abrupt c s) h e = refl
resolved_failed (OutOfTurns s) h e = refl
resolved_failed (GoesWrong s) h e = refl

unended_failed : {A : Type 0} (f : Eval A) (h : A → Eval Completion) → Fails A f → Unended (f >>= h)
unfolding resolve
unended_failed f h m = unended (λ s. resolved_failed (f s) h (given_not m s))

-- ---- statements one after another

unended_after : (rest : Continuation) (run : Eval Completion) (flow : Completion) → Unended run → Unended (after_statement rest run flow)
unfolding is_done
unended_after rest run Done m = m
unended_after rest run (Yielding v r) m = unended (λ s. refl)
unended_after rest run Quitting m = unended (λ s. refl)
unended_after rest run (Returning v) m = unended (λ s. refl)

unended_followed : (first : Eval Completion) (rest : Continuation) (run : Eval Completion) → Unended run → Unended (run_then first rest run)
unended_followed first rest run m = unended_then first _ (λ flow. unended_after rest run flow m)

module _ (p : Program) (go : Continuation → Eval Completion) where
  unended_stop : (a : Stmt) → is_stop a ≡ true → Unended (resume_at p go (Then a Finished))
  unended_stop (Fault kind at) e = unended_failed _ _ (fails_fault p kind at)
  unended_stop _ e = absurd (true≢false (sym e))

  mutual
    unended_by : (a : Stmt) (rest : Continuation) → EndsBy a rest → Unended (resume_at p go (Then a rest))
    unended_by a Finished e = unended_stop a e
    unended_by a (Then b more) e = unended_followed _ (Then b more) _ (unended_by b more e)
    unended_by a (InLoop loop body within more) e = unended_followed _ (InLoop loop body within more) _ (unended_followed _ more _ (unended_rest loop body more e))

    unended_rest : (loop : ℕ) (body : Stmts) (rest : Continuation) → EndsBy (Loop loop body) rest → Unended (resume_at p go rest)
    unended_rest loop body Finished e = absurd (true≢false (sym e))
    unended_rest loop body (Then b more) e = unended_by b more e
    unended_rest loop body (InLoop number inner within more) e = unended_followed _ more _ (unended_rest number inner more e)

  -- what ends in a fault never comes to its end
  unended_left : (r : Continuation) → EndsInStop r → Unended (resume_at p go r)
  unended_left Finished e = absurd e
  unended_left (Then a rest) e = unended_by a rest e
  unended_left (InLoop loop body within rest) e = unended_followed _ rest _ (unended_rest loop body rest e)

  pub never_done : (r : Continuation) → EndsInStop r → (s t : State) → resume_at p go r s ≡ Normal Done t → ⊥
  unfolding is_done
  never_done r e s t h = true≢false (sym (ap is_done h) ∙ done_not (unended_left r e) s)
