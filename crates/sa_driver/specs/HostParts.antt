-- The state of the host before and after a call.
use Rattle.std.specs.Prelude.{◌≡◌, ℕ, List, Option}
use Rattle.host_io.specs.Faults.{Rose}
use Rattle.host_io.specs.Files.{Files}
use Rattle.host_io.specs.Input.{Input}
use Rattle.sa_trace.specs.Writing.{Sink}

-- what a part of the host held before a call and holds after it, where it says so, and how often it had failed
pub record HostPart (T : Type 0) : Type 0 where
  pub before : Option T
  pub after : Option T
  pub faults_before : ℕ
  pub faults_after : ℕ

-- from functions that give what the part holds and how often it has failed at any time: as it was before the call and is after it
abbrev pub part : {X T : Type 0} → (X → Option T) → (X → ℕ) → X → X → HostPart T
part holds faults old new = record { before = holds old; after = holds new; faults_before = faults old; faults_after = faults new }

-- it failed in the call
abbrev pub Failed : {T : Type 0} → HostPart T → Type 0
Failed part = Rose part.faults_before part.faults_after

-- it holds what it held before
abbrev pub IsUnchanged : {T : Type 0} → HostPart T → Type 0
IsUnchanged part = part.after ≡ part.before

-- the same, and it hasn't failed
abbrev pub IsUntouched : {T : Type 0} → HostPart T → Type 0
IsUntouched part = IsUnchanged part × (part.faults_after ≡ part.faults_before)

-- a sink at two times
abbrev pub between : Sink → Sink → HostPart (List ℕ)
between old new = record { before = old.taken; after = new.taken; faults_before = old.faults; faults_after = new.faults }

-- the files of the store, what the input has left, what out has taken, and what err has taken before the lines of the end
pub record HostState : Type 0 where
  pub store : HostPart Files
  pub input : HostPart Input
  pub out : HostPart (List ℕ)
  pub err : HostPart (List ℕ)

abbrev pub host_state : HostPart Files → HostPart Input → (out err : HostPart (List ℕ)) → HostState
host_state store input out err = record { store = store; input = input; out = out; err = err }
