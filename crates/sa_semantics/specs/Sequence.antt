-- Steps on a state, and their composition. The semantics of typed programs and that of control-flow graphs are both made of these.
use Rattle.std.specs.Prelude.{ℕ, nat_lt, if◌then◌else◌, List, length, set, slice_get, Option, Some, None}

-- The outcome of a step on a state S. It may stop for a cause C.
pub data StepOutcome (S C A : Type 0) : Type 0 where
  Normal : A → S → StepOutcome S C A
  Abrupt : C → S → StepOutcome S C A
  -- a turn is due, and none is left
  OutOfTurns : S → StepOutcome S C A
  -- no rule applies
  GoesWrong : S → StepOutcome S C A

abbrev pub Step : Type 0 → Type 0 → Type 0 → Type 0
Step S C A = S → StepOutcome S C A

-- the state at the end of an outcome
abbrev pub last_state : {S C A : Type 0} → StepOutcome S C A → S
last_state (Normal a s) = s
last_state (Abrupt c s) = s
last_state (OutOfTurns s) = s
last_state (GoesWrong s) = s

abbrev pub resolve_outcome : {S C A B : Type 0} → StepOutcome S C A → (A → Step S C B) → (C → Step S C B) → StepOutcome S C B
resolve_outcome (Normal a s) next stopped = next a s
resolve_outcome (Abrupt c s) next stopped = stopped c s
resolve_outcome (OutOfTurns s) next stopped = OutOfTurns s
resolve_outcome (GoesWrong s) next stopped = GoesWrong s

-- a step, and then one step where it gives a value, and another where it stops
unfoldable pub resolve : {S C A B : Type 0} → Step S C A → (A → Step S C B) → (C → Step S C B) → Step S C B
resolve f next stopped = λ s. resolve_outcome (f s) next stopped

abbrev pub stop : {S C A : Type 0} → C → Step S C A
stop c = λ s. Abrupt c s

abbrev pub stuck : {S C A : Type 0} → Step S C A
stuck = λ s. GoesWrong s

infixl 10 ◌>>=◌
abbrev pub ◌>>=◌ : {S C A B : Type 0} → Step S C A → (A → Step S C B) → Step S C B
f >>= next = resolve f next stop

infixl 10 ◌>>◌
abbrev pub ◌>>◌ : {S C A B : Type 0} → Step S C A → Step S C B → Step S C B
f >> g = resolve f (λ _. g) stop

abbrev pub pure : {S C A : Type 0} → A → Step S C A
pure a = λ s. Normal a s

abbrev pub look : {S C A : Type 0} → (S → A) → Step S C A
look see = λ s. Normal (see s) s

abbrev pub change : {S C : Type 0} → (S → S) → Step S C (Unit {0})
change f = λ s. Normal tt (f s)

-- the value of the option, which is stuck where it has none
unfoldable pub or_stuck : {S C A : Type 0} → Option A → Step S C A
or_stuck (Some a) = pure a
or_stuck None = stuck

-- the element at an index, where the list has this index
abbrev pub at_index : {S C A : Type 0} → List A → ℕ → Step S C A
at_index list place = or_stuck (slice_get list place)

-- the list with another element at an index, where it has this index
abbrev pub with_index : {S C A : Type 0} → List A → ℕ → A → Step S C (List A)
with_index list place a = if nat_lt place (length list) then pure (set list place a) else stuck
