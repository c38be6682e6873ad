-- The correspondence with both bounds: steps of the machine, and turns of the program, are put before a run that matches.
use Rattle.std.proofs.Common.{ℕ, ◌+◌, ◌*◌, ◌≤◌, arith}
use Rattle.wa_syntax.specs.declared.module.Module.{Module}
use Rattle.wa_syntax.specs.Machine.{State}
use Rattle.wa_runs.specs.RunsTo.{RunsTo}
use Rattle.wa_runs.specs.Simulation.{Correspondence, Outcome, Ends, Stops, Spends, Sticks, Measures, Matches}
use Rattle.wa_runs.proofs.Composition.{runs-then, halts-then}

-- both bounds of two runs together
upper : (n l x y z c d : ℕ) → n + y + c ≤ z + d → l + x ≤ y + c → (n + l) + x ≤ z + d
upper n l x y z c d h i = omega (arith, h, i)

lower : (n l f g h x y : ℕ) → f + x ≤ g + (y + n) → g ≤ h + (x + l) → f ≤ h + (y + (n + l))
lower n l f g h x y i j = omega (arith, i, j)

lower-spent : (n l f g x y : ℕ) → f + x ≤ g + (y + n) → g ≤ x + l → f ≤ y + (n + l)
lower-spent n l f g x y i j = omega (arith, i, j)

module _ {E F : Type 0} (m : Module) (r : Measures E F) where
  -- n steps of the machine, in which the program comes from f to g
  pub matches-then : (n c d x y : ℕ) (f g : F) (s t : State) (o : Outcome E F) → RunsTo m n s t →
      r.turns f + x ≤ r.turns g + (y + n) → n + r.per * r.left g + c ≤ r.per * r.left f + d → Matches m r c x g t o → Matches m r d y f s o
  matches-then n c d x y f g s t (Ends e h) goes low high w = record {
    steps = n + w.steps;
    to = w.to;
    runs = runs-then goes w.runs;
    seen = w.seen;
    low = lower n w.steps (r.turns f) (r.turns g) (r.turns h) x y low w.low;
    high = upper n w.steps (r.per * r.left h) (r.per * r.left g) (r.per * r.left f) c d high w.high;
  }
  matches-then n c d x y f g s t (Stops halt h) goes low high w = record {
    steps = n + w.steps;
    to = w.to;
    halts = halts-then goes w.halts;
    seen = w.seen;
    low = lower n w.steps (r.turns f) (r.turns g) (r.turns h) x y low w.low;
    high = upper n w.steps (r.per * r.left h) (r.per * r.left g) (r.per * r.left f) c d high w.high;
  }
  matches-then n c d x y f g s t (Spends h) goes low high w = record {
    steps = n + w.steps;
    to = w.to;
    runs = runs-then goes w.runs;
    seen = w.seen;
    low = lower-spent n w.steps (r.turns f) (r.turns g) x y low w.low;
    high = upper n w.steps (r.per * r.left h) (r.per * r.left g) (r.per * r.left f) c d high w.high;
  }
  matches-then n c d x y f g s t Sticks goes low high w = tt

  lead-only : (n a x y : ℕ) → x ≤ y + n → a + x ≤ a + (y + n)
  lead-only n a x y h = omega (arith, h)

  credit-only : (n a c d : ℕ) → n + c ≤ d → n + a + c ≤ a + d
  credit-only n a c d h = omega (arith, h)

  -- with what represents a state of the program, it is a correspondence
  pub bounded : ((entry : ℕ) → F → State → Type 0) → Correspondence m F (Outcome E F)
  bounded represents = record {
    stuck = Sticks;
    represents = represents;
    matches = Matches m r;
    matches_stuck = λ credit lead f t. tt;
    matches_before = λ n c d x y f s t o goes less before w.
        matches-then n c d x y f f s t o goes (lead-only n (r.turns f) x y before) (credit-only n (r.per * r.left f) c d less) w;
  }
