-- A run is determined by its state: what is left of it after some instructions, and how it is over.
use Rattle.std.proofs.Common.{◌≡◌, ℕ, ◌+◌, ◌-◌, ◌≤◌, Bool, true, false, List, [], sym, ap, ◌∙◌, arith}
use Rattle.wa_syntax.specs.declared.module.Module.{Module}
use Rattle.wa_syntax.specs.Machine.{State, Halt, Running}
use Rattle.wa_syntax.specs.Steps.{Ran, Finished, Halted, Unfinished, run}
use Rattle.wa_runs.specs.RunsTo.{observed, RunsTo, EndsWith, HaltsWith}

-- ---- the parts of an outcome

abbrev left_in : Ran → ℕ
left_in (Finished left results s) = left
left_in (Halted halt left s) = left
left_in (Unfinished s) = 0

abbrev results_in : Ran → List ℕ
results_in (Finished left results s) = results
results_in (Halted halt left s) = []
results_in (Unfinished s) = []

abbrev halt_in : Ran → Halt
halt_in (Finished left results s) = Running
halt_in (Halted halt left s) = halt
halt_in (Unfinished s) = Running

abbrev state_in : Ran → State
state_in (Finished left results s) = s
state_in (Halted halt left s) = s
state_in (Unfinished s) = s

abbrev is_end : Ran → Bool
is_end (Finished left results s) = true
is_end (Halted halt left s) = false
is_end (Unfinished s) = false

-- ---- what is left of a run after k of its instructions

pub rest-runs : {m : Module} {k l : ℕ} {s t u : State} → k ≤ l → RunsTo m k s t → RunsTo m l s u → RunsTo m (l - k) t u
rest-runs {m = m} {k = k} {l = l} {s = s} less g h = record {
  is = λ n.
      (let e : k + (l - k + n) ≡ l + n = omega (arith, less) in
      sym (g.is (l - k + n)) ∙ ap (λ z. observed (run m z s)) e ∙ h.is n);
}

pub rest-ends : {m : Module} {k l : ℕ} {s t u : State} {results : List ℕ} → k ≤ l → RunsTo m k s t → EndsWith m l s results u →
    EndsWith m (l - k) t results u
rest-ends {m = m} {k = k} {l = l} {s = s} less g h = record {
  is = λ n.
      (let e : k + (l - k + n) ≡ l + n = omega (arith, less) in
      sym (g.is (l - k + n)) ∙ ap (λ z. observed (run m z s)) e ∙ h.is n);
}

pub rest-halts : {m : Module} {k l : ℕ} {s t u : State} {halt : Halt} → k ≤ l → RunsTo m k s t → HaltsWith m l s halt u →
    HaltsWith m (l - k) t halt u
rest-halts {m = m} {k = k} {l = l} {s = s} less g h = record {
  is = λ n.
      (let e : k + (l - k + n) ≡ l + n = omega (arith, less) in
      sym (g.is (l - k + n)) ∙ ap (λ z. observed (run m z s)) e ∙ h.is n);
}

-- ---- one end

-- two numbers of instructions after each of which the run is over: what is observed after both together
same-run : (m : Module) (k l : ℕ) (s : State) (p q : Ran) → observed (run m (k + l) s) ≡ p → observed (run m (l + k) s) ≡ q → p ≡ q
same-run m k l s p q g h =
    let e : k + l ≡ l + k = omega arith in
    sym g ∙ ap (λ z. observed (run m z s)) e ∙ h

pub ends-once : (m : Module) (k l : ℕ) (s t u : State) (results others : List ℕ) → EndsWith m k s results t → EndsWith m l s others u →
    (k ≡ l) × (results ≡ others) × (t ≡ u)
ends-once m k l s t u results others g h =
    let e = same-run m k l s (Finished l results t) (Finished k others u) (g.is l) (h.is k) in
    (sym (ap left_in e), ap results_in e, ap state_in e)

pub halts-once : (m : Module) (k l : ℕ) (s t u : State) (halt other : Halt) → HaltsWith m k s halt t → HaltsWith m l s other u →
    (k ≡ l) × (halt ≡ other) × (t ≡ u)
halts-once m k l s t u halt other g h =
    let e = same-run m k l s (Halted halt l t) (Halted other k u) (g.is l) (h.is k) in
    (sym (ap left_in e), ap halt_in e, ap state_in e)

differ : true ≡ false → ⊥
differ e = cc

pub ends-or-halts : (m : Module) (k l : ℕ) (s t u : State) (results : List ℕ) (halt : Halt) → EndsWith m k s results t →
    HaltsWith m l s halt u → ⊥
ends-or-halts m k l s t u results halt g h =
    differ (ap is_end (same-run m k l s (Finished l results t) (Halted halt k u) (g.is l) (h.is k)))
