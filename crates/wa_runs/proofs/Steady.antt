-- A run that is over within some steps is the same within more.
use Rattle.std.proofs.Common.{◌≡◌, ℕ, zero, suc, ◌+◌, ◌-◌, ◌≤◌, List, [], ◌∷◌, slice_get, refl, sym, ap, subst, ◌∙◌, arith}
use Rattle.std.specs.Prelude.{◌≢◌, option_map}
use Rattle.wa_syntax.specs.declared.module.Module.{Module}
use Rattle.wa_syntax.specs.Instructions.{Instruction}
use Rattle.wa_syntax.specs.Machine.{Input, State, Ended, Running, Out, Gives, Leaves, as_i32}
use Rattle.wa_syntax.specs.Steps.{execute, call, Next, At, Over, Ran, Finished, Halted, Unfinished, at_next, after, next, run}
use Rattle.wa_syntax.specs.Runs.{first_state, functions_of, run_from, run_all, outcome, machine_run}

abbrev IsOver : Ran → Type 0
IsOver (Finished left results s) = Unit {0}
IsOver (Halted halt left s) = Unit {0}
IsOver (Unfinished s) = ⊥

-- the same with d steps more
abbrev with_more : ℕ → Ran → Ran
with_more d (Finished left results s) = Finished (left + d) results s
with_more d (Halted halt left s) = Halted halt (left + d) s
with_more d (Unfinished s) = Unfinished s

module _ (m : Module) where
  over-at : (d : ℕ) (s : State) (results : List ℕ) (u : State) → next s ≡ Over results u → run m d s ≡ Finished d results u
  over-at zero s results u e = ap (λ x. at_next zero (λ i t. Unfinished s) x) e
  over-at (suc d) s results u e = ap (λ x. at_next (suc d) (λ i t. after d (run m d) (execute m i t)) x) e

  next-at : (d : ℕ) (s : State) (i : Instruction) (u : State) → next s ≡ At i u → run m (suc d) s ≡ after d (run m d) (execute m i u)
  next-at d s i u e = ap (λ x. at_next (suc d) (λ i t. after d (run m d) (execute m i t)) x) e

  unfinished-at : (s : State) (i : Instruction) (u : State) → next s ≡ At i u → run m zero s ≡ Unfinished s
  unfinished-at s i u e = ap (λ x. at_next zero (λ i t. Unfinished s) x) e

  -- ---- a run from a state

  steady-out : (n d : ℕ) (o : Out (Unit {0})) → ((t : State) → IsOver (run m n t) → run m (n + d) t ≡ with_more d (run m n t)) →
      IsOver (after n (run m n) o) → after (n + d) (run m (n + d)) o ≡ with_more d (after n (run m n) o)
  steady-out n d (Gives u t) k h = k t h
  steady-out n d (Leaves halt t) k h = refl

  steady-none : (d : ℕ) (s : State) (x : Next) → next s ≡ x → IsOver (run m zero s) → run m (0 + d) s ≡ with_more d (run m zero s)
  steady-none d s (Over results u) e h = over-at (0 + d) s results u e ∙ sym (ap (with_more d) (over-at zero s results u e))
  steady-none d s (At i u) e h = absurd (subst IsOver (unfinished-at s i u e) h)

  steady-more : (n d : ℕ) (s : State) (x : Next) → next s ≡ x →
      ((t : State) → IsOver (run m n t) → run m (n + d) t ≡ with_more d (run m n t)) → IsOver (run m (suc n) s) →
      run m (suc n + d) s ≡ with_more d (run m (suc n) s)
  steady-more n d s (Over results u) e k h = over-at (suc n + d) s results u e ∙ sym (ap (with_more d) (over-at (suc n) s results u e))
  steady-more n d s (At i u) e k h =
      let a = next-at n s i u e in
      let c : suc n + d ≡ suc (n + d) = omega arith in
      ap (λ z. run m z s) c ∙ next-at (n + d) s i u e ∙ steady-out n d (execute m i u) k (subst IsOver a h) ∙ sym (ap (with_more d) a)

  pub run-steady : (n d : ℕ) (s : State) → IsOver (run m n s) → run m (n + d) s ≡ with_more d (run m n s)
  run-steady zero d s h = steady-none d s (next s) refl h
  run-steady (suc n) d s h = steady-more n d s (next s) refl (run-steady n d) h

  -- ---- functions one after another

  from-steady : (n d : ℕ) (o : Out (Unit {0})) → IsOver (run_from m n o) → run_from m (n + d) o ≡ with_more d (run_from m n o)
  from-steady n d (Gives u s) h = run-steady n d s h
  from-steady n d (Leaves halt s) h = refl

  -- functions that are over were begun by a run that was
  begun-over : (fs : List ℕ) (r : Ran) → IsOver (run_all m fs r) → IsOver r
  begun-over [] r h = h
  begun-over (f ∷ fs) (Finished left results s) h = tt
  begun-over (f ∷ fs) (Halted halt left s) h = tt
  begun-over (f ∷ fs) (Unfinished s) h = h

  all-steady : (fs : List ℕ) (d : ℕ) (r : Ran) → IsOver (run_all m fs r) → run_all m fs (with_more d r) ≡ with_more d (run_all m fs r)
  all-steady [] d r h = refl
  all-steady (f ∷ fs) d (Finished left results s) h =
      let o = call m f s in
      ap (run_all m fs) (from-steady left d o (begun-over fs (run_from m left o) h)) ∙ all-steady fs d (run_from m left o) h
  all-steady (f ∷ fs) d (Halted halt left s) h = refl
  all-steady (f ∷ fs) d (Unfinished s) h = absurd h

  -- ---- the run of a module

  outcome-steady : (n d : ℕ) (r : Ran) → IsOver r → outcome (n + d) (with_more d r) ≡ outcome n r
  outcome-steady n d (Finished left results s) h =
      let e : n + d - (left + d) ≡ n - left = omega arith in
      ap (λ z. record { halt = Ended (option_map as_i32 (slice_get results 0)); steps = z; output = s.output }) e
  outcome-steady n d (Halted halt left s) h =
      let e : n + d - (left + d) ≡ n - left = omega arith in
      ap (λ z. record { halt = halt; steps = z; output = s.output }) e
  outcome-steady n d (Unfinished s) h = absurd h

  over-by : (n : ℕ) (r : Ran) → (outcome n r).halt ≢ Running → IsOver r
  over-by n (Finished left results s) h = tt
  over-by n (Halted halt left s) h = tt
  over-by n (Unfinished s) h = h refl

  pub machine-steady : (input : Input) (n k : ℕ) → (machine_run m input n).halt ≢ Running → n ≤ k →
      machine_run m input k ≡ machine_run m input n
  unfolding machine_run
  machine-steady input n k h l =
      let d = k - n in
      let e : k ≡ n + d = omega (arith, l) in
      let fs = functions_of m in
      let first = first_state m input in
      let is = over-by n (run_all m fs (Finished n [] first)) h in
      ap (λ z. outcome z (run_all m fs (Finished z [] first))) e ∙
      ap (outcome (n + d)) (all-steady fs d (Finished n [] first) is) ∙ outcome-steady n d (run_all m fs (Finished n [] first)) is
