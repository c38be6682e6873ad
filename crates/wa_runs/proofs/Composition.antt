-- How runs are put together: no instruction, one after another, and a state or a number in place of an equal one.
use Rattle.std.proofs.Common.{◌≡◌, ℕ, zero, suc, ◌+◌, List, refl, sym, ap, subst, ◌∙◌, arith}
use Rattle.wa_syntax.specs.declared.module.Module.{Module}
use Rattle.wa_syntax.specs.Instructions.{Instruction, Sequence, ◌then◌}
use Rattle.wa_syntax.specs.Machine.{State, Halt, Gives, Leaves}
use Rattle.wa_syntax.specs.Steps.{Finished, Halted, after, execute, run}
use Rattle.wa_runs.specs.RunsTo.{observed, RunsTo, EndsWith, HaltsWith}

-- k more than n, suc by suc: where k is a numeral it computes, and with it a run of so many instructions
unfoldable pub more : ℕ → ℕ → ℕ
more zero n = n
more (suc k) n = suc (more k n)

pub more-is : (k n : ℕ) → more k n ≡ k + n
unfolding more
more-is zero n = omega arith
more-is (suc k) n = let e : suc (more k n) ≡ suc (k + n) = ap suc (more-is k n) in e ∙ omega arith

pub runs-to : {m : Module} {k : ℕ} {s t : State} → ((n : ℕ) → observed (run m (more k n) s) ≡ observed (run m n t)) → RunsTo m k s t
runs-to {m = m} {k = k} {s = s} h = record { is = λ n. ap (λ z. observed (run m z s)) (sym (more-is k n)) ∙ h n }

pub ends-with : {m : Module} {k : ℕ} {s : State} {results : List ℕ} {t : State} →
    ((n : ℕ) → observed (run m (more k n) s) ≡ Finished n results t) → EndsWith m k s results t
ends-with {m = m} {k = k} {s = s} h = record { is = λ n. ap (λ z. observed (run m z s)) (sym (more-is k n)) ∙ h n }

pub halts-with : {m : Module} {k : ℕ} {s : State} {halt : Halt} {t : State} →
    ((n : ℕ) → observed (run m (more k n) s) ≡ Halted halt n t) → HaltsWith m k s halt t
halts-with {m = m} {k = k} {s = s} h = record { is = λ n. ap (λ z. observed (run m z s)) (sym (more-is k n)) ∙ h n }

-- ---- one after another

pub stays : {m : Module} {s : State} → RunsTo m 0 s s
unfolding more
stays {m = m} {s = s} = runs-to {m = m} {k = 0} {s = s} {t = s} (λ n. refl)

pub runs-then : {m : Module} {k l : ℕ} {s t u : State} → RunsTo m k s t → RunsTo m l t u → RunsTo m (k + l) s u
runs-then {m = m} {k = k} {l = l} {s = s} g h = record {
  is = λ n.
      (let e : k + l + n ≡ k + (l + n) = omega arith in
      ap (λ z. observed (run m z s)) e ∙ g.is (l + n) ∙ h.is n);
}

pub ends-then : {m : Module} {k l : ℕ} {s t u : State} {results : List ℕ} →
    RunsTo m k s t → EndsWith m l t results u → EndsWith m (k + l) s results u
ends-then {m = m} {k = k} {l = l} {s = s} g h = record {
  is = λ n.
      (let e : k + l + n ≡ k + (l + n) = omega arith in
      ap (λ z. observed (run m z s)) e ∙ g.is (l + n) ∙ h.is n);
}

pub halts-then : {m : Module} {k l : ℕ} {s t u : State} {halt : Halt} →
    RunsTo m k s t → HaltsWith m l t halt u → HaltsWith m (k + l) s halt u
halts-then {m = m} {k = k} {l = l} {s = s} g h = record {
  is = λ n.
      (let e : k + l + n ≡ k + (l + n) = omega arith in
      ap (λ z. observed (run m z s)) e ∙ g.is (l + n) ∙ h.is n);
}

-- ---- equal numbers and states

pub runs-count : {m : Module} {k l : ℕ} {s t : State} → k ≡ l → RunsTo m k s t → RunsTo m l s t
runs-count {m = m} {s = s} {t = t} e g = subst (λ z. RunsTo m z s t) e g

pub runs-from : {m : Module} {k : ℕ} {r s t : State} → s ≡ r → RunsTo m k s t → RunsTo m k r t
runs-from {m = m} {k = k} {t = t} e g = subst (λ z. RunsTo m k z t) e g

pub runs-into : {m : Module} {k : ℕ} {s t u : State} → t ≡ u → RunsTo m k s t → RunsTo m k s u
runs-into {m = m} {k = k} {s = s} e g = subst (λ z. RunsTo m k s z) e g

-- ---- one instruction

-- what an instruction gives is where it leads to
pub runs-by : (m : Module) (i : Instruction) (rest : Sequence) (s t : State) → execute m i (record s { code = rest }) ≡ Gives tt t →
    RunsTo m 1 (record s { code = i then rest }) t
unfolding more
runs-by m i rest s t e =
    runs-to {m = m} {k = 1} {s = record s { code = i then rest }} {t = t} (λ n. ap (λ o. observed (after n (run m n) o)) e)

-- how it leaves the run is how the run halts
pub halts-by : (m : Module) (i : Instruction) (rest : Sequence) (s t : State) (halt : Halt) →
    execute m i (record s { code = rest }) ≡ Leaves halt t → HaltsWith m 1 (record s { code = i then rest }) halt t
unfolding more observed
halts-by m i rest s t halt e =
    halts-with {m = m} {k = 1} {s = record s { code = i then rest }} {halt = halt} {t = t}
    (λ n. ap (λ o. observed (after n (run m n) o)) e)
