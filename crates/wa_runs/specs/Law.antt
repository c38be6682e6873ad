-- The laws of runs that later proofs use most, each of one module.
use Rattle.std.specs.Prelude.{ℕ, ◌+◌, ◌≡◌, ◌≤◌, ◌≢◌, true, List, length}
use Rattle.std.specs.Int.{Width, byte_len}
use Rattle.wa_syntax.specs.declared.module.Module.{Module}
use Rattle.wa_syntax.specs.Instructions.{Instruction, Sequence}
use Rattle.wa_syntax.specs.Machine.{Input, State, Halt, Running}
use Rattle.wa_syntax.specs.Numeric.{wrap}
use Rattle.wa_syntax.specs.Runs.{machine_run}
use Rattle.wa_runs.specs.RunsTo.{RunsTo, EndsWith, HaltsWith}
use Rattle.wa_runs.specs.StraightLine.{fragment_effect, fragment_succeeds, before, count, with_code}
use Rattle.wa_runs.specs.Words.{word_at, with_word, AreApart}

-- Runs one after the other are one run, and the numbers of their instructions add up.
pub record Composes (m : Module) : Type 0 where
  pub runs : (k l : ℕ) (s t u : State) → RunsTo m k s t → RunsTo m l t u → RunsTo m (k + l) s u
  pub ends : (k l : ℕ) (s t u : State) (results : List ℕ) → RunsTo m k s t → EndsWith m l t results u → EndsWith m (k + l) s results u
  pub halts : (k l : ℕ) (s t u : State) (halt : Halt) → RunsTo m k s t → HaltsWith m l t halt u → HaltsWith m (k + l) s halt u

-- A run is determined by its state: it ends in one way, or halts in one way, and not both.
pub record IsDeterministic (m : Module) : Type 0 where
  pub ends : (k l : ℕ) (s t u : State) (results others : List ℕ) → EndsWith m k s results t → EndsWith m l s others u →
      (k ≡ l) × (results ≡ others) × (t ≡ u)
  pub halts : (k l : ℕ) (s t u : State) (halt other : Halt) → HaltsWith m k s halt t → HaltsWith m l s other u →
      (k ≡ l) × (halt ≡ other) × (t ≡ u)
  pub not_both : (k l : ℕ) (s t u : State) (results : List ℕ) (halt : Halt) → EndsWith m k s results t → HaltsWith m l s halt u → ⊥

-- A fragment of straight-line code that succeeds runs to its effect, in as many steps as it has instructions, whatever code follows it.
abbrev pub RunsStraight : Module → Type 0
RunsStraight m = (is : List Instruction) (rest : Sequence) (s : State) → fragment_succeeds is s ≡ true →
    RunsTo m (count is) (with_code (before is rest) s) (with_code rest (fragment_effect is s))

-- A run of a module that is over within so many instructions is the same within more.
abbrev pub IsSteady : Module → Type 0
IsSteady m = (input : Input) (n k : ℕ) → (machine_run m input n).halt ≢ Running → n ≤ k → machine_run m input k ≡ machine_run m input n

-- A word that is stored is read again, a store changes no word apart from it, and the size of the memory stays.
pub record StoresWords : Type 0 where
  pub same : (w : Width) (memory : List ℕ) (a n : ℕ) → byte_len w ≤ 8 → a + byte_len w ≤ length memory →
      word_at w (with_word w memory a n) a ≡ wrap w n
  pub apart : (v w : Width) (memory : List ℕ) (a b n : ℕ) → a + byte_len w ≤ length memory → AreApart a (byte_len w) b (byte_len v) →
      word_at v (with_word w memory a n) b ≡ word_at v memory b
  pub size : (w : Width) (memory : List ℕ) (a n : ℕ) → a + byte_len w ≤ length memory → length (with_word w memory a n) ≡ length memory
