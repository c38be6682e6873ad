-- Laws of whole runs.
use Rattle.std.specs.Prelude.{◌≡◌, ℕ, ◌≤◌, List, ◌++◌}
use Rattle.sa_typed.specs.declared.program.TypedProgram.{TypedProgram}
use Rattle.sa_semantics.specs.Program.{program_of}
use Rattle.sa_semantics.specs.Protects.{HasNoProtect}
use Rattle.sa_semantics.specs.State.{Input}
use Rattle.sa_semantics.specs.Sequence.{last_state}
use Rattle.sa_semantics.specs.Run.{End, Spent, run, run_before, outcome, output}

abbrev pub IsOver : End → Type 0
IsOver (Spent output) = ⊥
IsOver _ = Unit {0}

abbrev pub IsSpent : End → Type 0
IsSpent (Spent output) = Unit {0}
IsSpent _ = ⊥

abbrev pub IsPrefix : List ℕ → List ℕ → Type 0
IsPrefix a b = (bytes : List ℕ) × (b ≡ a ++ bytes)

-- a run that is over in n turns is the same in more
abbrev pub IsSteady : TypedProgram → Type 0
IsSteady core = (input : Input) (room n m : ℕ) → n ≤ m → IsOver (run core input room n) → run core input room m ≡ run core input room n

-- the output in n turns is a prefix of the output in more
abbrev pub IsGrowing : TypedProgram → Type 0
IsGrowing core = (input : Input) (room n m : ℕ) → n ≤ m → IsPrefix (output core input room n) (output core input room m)

-- a run that isn't over has no turn left
abbrev pub IsSpending : TypedProgram → Type 0
IsSpending core =
    (input : Input) (room n : ℕ) → IsSpent (run core input room n) → (last_state (outcome (program_of core) input room n)).turns ≡ 0

-- Where there is no protect it makes no difference whether faults can be caught: on each input, with each room and each number of
-- turns, the run in which a fault raises an object ends as the run does in which the fault stops the program at once. It gives
-- the same output, and stops with the same kind and position.
abbrev pub IsSameBefore : TypedProgram → Type 0
IsSameBefore core =
    HasNoProtect (program_of core) → (input : Input) (room turns : ℕ) → run_before core input room turns ≡ run core input room turns
