-- From the run of `main` to that of the module: of a module without a start function, what leads from the beginning of `main` to an end, to
-- a halt, or to a state that still runs is what `machine_run` is.
use Rattle.std.proofs.Common.{◌≡◌, ℕ, ◌+◌, ◌-◌, ◌≤◌, List, [], ◌∷◌, slice_get, refl, sym, ap, ◌∙◌, arith}
use Rattle.std.specs.Prelude.{option_map}
use Rattle.wa_syntax.specs.declared.module.Module.{Module}
use Rattle.wa_syntax.specs.Instructions.{Instruction}
use Rattle.wa_syntax.specs.Machine.{Input, State, Halt, Ended, Running, Out, Gives, outside, as_i32}
use Rattle.wa_syntax.specs.Steps.{call, At, Ran, Finished, Halted, Unfinished, at_next, next, run}
use Rattle.wa_syntax.specs.Runs.{first_state, functions_of, run_from, run_all, Run, outcome, machine_run}
use Rattle.wa_runs.specs.RunsTo.{observed, RunsTo, EndsWith, HaltsWith}

-- an outcome shows no more of a run than is observed of it
outcome-observed : (n : ℕ) (r : Ran) → outcome n (observed r) ≡ outcome n r
unfolding observed
outcome-observed n (Finished left results s) = refl
outcome-observed n (Halted halt left s) = refl
outcome-observed n (Unfinished s) = refl

waiting : (m : Module) (s u : State) (i : Instruction) → next s ≡ At i u → observed (run m 0 s) ≡ Unfinished (outside s)
unfolding observed
waiting m s u i e = ap (λ x. observed (at_next 0 (λ j t. Unfinished s) x)) e

-- `main` is the one function that is run, and s is the state in which it begins
module _ (m : Module) (main : ℕ) (input : Input) (s : State) (alone : functions_of m ≡ main ∷ [])
    (begins : call m main (first_state m input) ≡ Gives tt s) where
  whole : (most : ℕ) → machine_run m input most ≡ outcome most (run m most s)
  unfolding machine_run
  whole most =
      ap (λ fs. outcome most (run_all m fs (Finished most [] (first_state m input)))) alone ∙
      ap (λ (o : Out (Unit {0})). outcome most (run_from m most o)) begins

  -- after k of these instructions, and no more than the rest
  whole-after : (k most : ℕ) (r : Ran) → k ≤ most → observed (run m (k + (most - k)) s) ≡ r → machine_run m input most ≡ outcome most r
  whole-after k most r less h =
      let e : most ≡ k + (most - k) = omega (arith, less) in
      whole most ∙ sym (outcome-observed most (run m most s)) ∙ ap (λ n. outcome most (observed (run m n s))) e ∙ ap (outcome most) h

  pub machine-ends : (k most : ℕ) (results : List ℕ) (t : State) → EndsWith m k s results t → k ≤ most →
      machine_run m input most ≡ record { halt = Ended (option_map as_i32 (slice_get results 0)); steps = k; output = t.output }
  machine-ends k most results t g less =
      let e : most - (most - k) ≡ k = omega (arith, less) in
      whole-after k most (Finished (most - k) results t) less (g.is (most - k)) ∙
      ap {B = Run} (λ n. record { halt = Ended (option_map as_i32 (slice_get results 0)); steps = n; output = t.output }) e

  pub machine-halts : (k most : ℕ) (halt : Halt) (t : State) → HaltsWith m k s halt t → k ≤ most →
      machine_run m input most ≡ record { halt = halt; steps = k; output = t.output }
  machine-halts k most halt t g less =
      let e : most - (most - k) ≡ k = omega (arith, less) in
      whole-after k most (Halted halt (most - k) t) less (g.is (most - k)) ∙
      ap {B = Run} (λ n. record { halt = halt; steps = n; output = t.output }) e

  -- where an instruction comes next, k of them don't suffice
  pub machine-runs : (k : ℕ) (t u : State) (i : Instruction) → RunsTo m k s t → next t ≡ At i u →
      machine_run m input k ≡ record { halt = Running; steps = k; output = t.output }
  machine-runs k t u i g e =
      let z : k - k ≡ 0 = omega arith in
      whole-after k k (Unfinished (outside t)) (omega arith)
      (g.is (k - k) ∙ ap (λ n. observed (run m n t)) z ∙ waiting m t u i e)
