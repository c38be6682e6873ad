-- Runs of the machine in pieces: so many instructions lead from a state to another one, to the end of the run, or to a halt. `run m n s` of
-- `wa_syntax` is the run of at most n instructions from s.
use Rattle.std.specs.Prelude.{ℕ, ◌+◌, ◌≡◌, List}
use Rattle.wa_syntax.specs.declared.module.Module.{Module}
use Rattle.wa_syntax.specs.Machine.{State, Halt, outside}
use Rattle.wa_syntax.specs.Steps.{Ran, Finished, Halted, Unfinished, run}

-- What is observed of a run. The ends of blocks and functions are no instructions, so runs of no instruction at such an end and after it
-- differ in code, operands, locals and labels, and in nothing else. These aren't observed where the run can go on.
unfoldable pub observed : Ran → Ran
observed (Finished left results s) = Finished left results s
observed (Halted halt left s) = Halted halt left s
observed (Unfinished s) = Unfinished (outside s)

-- k instructions lead from s to t: with n more the run from s is that from t with n
pub record RunsTo (m : Module) (k : ℕ) (s t : State) : Type 0 where
  pub is : (n : ℕ) → observed (run m (k + n) s) ≡ observed (run m n t)

-- k instructions lead from s to the end of the outermost function, which leaves these results
pub record EndsWith (m : Module) (k : ℕ) (s : State) (results : List ℕ) (t : State) : Type 0 where
  pub is : (n : ℕ) → observed (run m (k + n) s) ≡ Finished n results t

-- the k-th instruction from s on leaves the run: it traps, which is the halt `Trap`, or the host stops it, or it fails
pub record HaltsWith (m : Module) (k : ℕ) (s : State) (halt : Halt) (t : State) : Type 0 where
  pub is : (n : ℕ) → observed (run m (k + n) s) ≡ Halted halt n t
