-- What a cause says of the host, once there is something to write, to print or to run.
use Rattle.std.specs.Prelude.{◌≡◌, ◌≢◌, ◌⊎◌, ⊤, ℕ, List, Option, Some, slice_get}
use Rattle.host_io.specs.Files.{Files, Writes, WritesFront}
use Rattle.host_io.specs.Output.{Took, TookFront}
use Rattle.sa_ast.specs.Faults.{fault_number}
use Rattle.sa_ast.specs.declared.fault_kind.FaultKind.{FaultKind}
use Rattle.sa_ast.specs.declared.pos.Pos.{Pos}
use Rattle.sa_ast.specs.declared.pos.Sources.{Sources}
use Rattle.wa_run.specs.declared.answer.Answer.{Answer}
use Rattle.wa_run.specs.declared.answer.Answer.TheVariants as answer
use Rattle.sa_driver.specs.Files.{IsPlaceIn}
use Rattle.sa_driver.specs.Lines.{IsInside}
use Rattle.sa_driver.specs.HostParts.{Failed, HostPart}
use Rattle.sa_driver.specs.declared.cause.Cause.{Cause}
use Rattle.sa_driver.specs.declared.cause.Cause.TheVariants as cause

-- the end of a command that writes a file
abbrev pub WriteEnds : (store_failed : Type 0) → Cause → Type 0
WriteEnds store_failed cause.Done = ⊤
WriteEnds store_failed cause.StoreFault = store_failed
WriteEnds store_failed cause.NoMemory = ⊤
WriteEnds store_failed _ = ⊥

-- the file of this name was to get these bytes, and did at Done; else it has what it had or a prefix of them
pub record IsWritten (store : HostPart Files) (name bytes : List ℕ) (ends : Cause) : Type 0 where
  pub comes : WriteEnds (Failed store) ends
  pub whole : ends ≡ cause.Done → Writes store.before store.after name bytes
  pub front : WritesFront store.before store.after name bytes

-- from this time on, when it held this and had failed this often
abbrev pub since : (middle : Option Files) → (faults : ℕ) → HostPart Files → HostPart Files
since middle faults store = record store { before = middle; faults_before = faults }

-- the file of this name was to get these bytes, and once it has got them another file a text
abbrev pub AreWritten : HostPart Files → (name bytes : List ℕ) → (other text : List ℕ) → Cause → Type 0
AreWritten store name bytes other text ends =
    (IsWritten store name bytes ends × (ends ≢ cause.Done))
    ⊎ ((middle : Option Files) × (faults : ℕ) × Writes store.before middle name bytes
    × IsWritten (since middle faults store) other text ends)

-- the end of a command that puts a text on out
abbrev pub PrintEnds : (out_failed : Type 0) → Cause → Type 0
PrintEnds out_failed cause.Done = ⊤
PrintEnds out_failed cause.OutFault = out_failed
PrintEnds out_failed cause.NoMemory = ⊤
PrintEnds out_failed _ = ⊥

-- out was to take this text, and did at Done; else it took a prefix of it
pub record IsPrinted (out : HostPart (List ℕ)) (text : List ℕ) (ends : Cause) : Type 0 where
  pub comes : PrintEnds (Failed out) ends
  pub whole : ends ≡ cause.Done → Took out.before out.after text
  pub front : TookFront out.before out.after text

-- a cause that arises before anything is put on out or taken from the input
abbrev pub ComesBeforeOutput : Cause → Type 0
ComesBeforeOutput (cause.Refused refusal) = ⊤
ComesBeforeOutput cause.StoreFault = ⊤
ComesBeforeOutput cause.Usage = ⊤
ComesBeforeOutput cause.Malformed = ⊤
ComesBeforeOutput (cause.Invalid func) = ⊤
ComesBeforeOutput (cause.Unlinked import) = ⊤
ComesBeforeOutput cause.Segment = ⊤
ComesBeforeOutput (cause.NotListing line) = ⊤
ComesBeforeOutput cause.NoPage = ⊤
ComesBeforeOutput cause.NoLibraryFile = ⊤
ComesBeforeOutput _ = ⊥

-- the cause for an answer of a module that was run with this fuel
abbrev pub cause_of : ℕ → Answer → Cause
cause_of fuel answer.Malformed = cause.Malformed
cause_of fuel (answer.Invalid func) = cause.Invalid func
cause_of fuel (answer.Unlinked import) = cause.Unlinked import
cause_of fuel answer.Segment = cause.Segment
cause_of fuel (answer.Ended value) = cause.Done
cause_of fuel (answer.Stopped code site) = cause.Stopped code site
cause_of fuel (answer.Trap kind) = cause.Trap kind
cause_of fuel answer.TooDeep = cause.TooDeep
cause_of fuel answer.Spent = cause.Spent fuel
cause_of fuel answer.InFault = cause.InFault
cause_of fuel answer.OutFault = cause.OutFault
cause_of fuel answer.NoMemory = cause.NoMemory

-- the two numbers of a stop name this fault: the first is that of its kind, and the second the index of its position in this list, which is
-- in these texts, of which the lines can be counted
pub record NameFault (positions : List Pos) (sources : Sources) (code site : ℕ) (kind : FaultKind) (pos : Pos) : Type 0 where
  pub number : fault_number kind ≡ code
  pub position : slice_get positions site ≡ Some pos
  pub place : IsPlaceIn sources.texts pos
  pub inside : IsInside sources pos

-- a stop of a module is the fault that its numbers name, or an internal error where they name none
abbrev pub IsFaultOf : (positions : List Pos) → Sources → (code site : ℕ) → (of_program : Cause) → Type 0
IsFaultOf positions sources code site (cause.Fault kind pos) = NameFault positions sources code site kind pos
IsFaultOf positions sources code site (cause.Broken invariant) = (kind : FaultKind) (pos : Pos) → NameFault positions sources code site kind pos → ⊥
IsFaultOf positions sources code site _ = ⊥

-- the cause of a program of these texts, which carries these positions, is that of its module, or the fault that a stop of the module is
abbrev pub IsOfModule : (positions : List Pos) → Sources → (of_module : Cause) → (of_program : Cause) → Type 0
IsOfModule positions sources (cause.Stopped code site) of_program = IsFaultOf positions sources code site of_program
IsOfModule positions sources of_module of_program = of_program ≡ of_module
