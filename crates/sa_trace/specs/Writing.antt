-- The lines of events, and the effect of records on out and err.
use Rattle.std.specs.Prelude.{◌≡◌, ◌⊎◌, ◌+◌, ◌==◌, ℕ, List, [], ◌∷◌, ◌++◌, Option}
use Rattle.std.specs.Prelude.{codes, count_by, decimal, slice_get, take, unwrap_or}
use Rattle.host_io.specs.Faults.{Rose}
use Rattle.host_io.specs.Output.{Took, TookFront}
use Rattle.sa_ast.specs.declared.pos.Pos.{Pos}
use Rattle.sa_ast.specs.declared.pos.Sources.{Sources}
use Rattle.sa_ast.specs.Sources.{text_of}
use Rattle.sa_trace.specs.declared.trace_record.Event.{Event}
use Rattle.sa_trace.specs.declared.trace_record.TraceRecord.{TraceRecord}
use Rattle.sa_trace.specs.declared.trace_record.TraceRecord.TheVariants as frame
use Rattle.sa_trace.specs.declared.trace_record.EventKind.{EventKind}
use Rattle.sa_trace.specs.declared.trace_record.EventKind.TheVariants as kind
use Rattle.sa_trace.specs.declared.sinks.ErrStatus.{ErrStatus}
use Rattle.sa_trace.specs.declared.sinks.ErrStatus.TheVariants as listening
use Rattle.sa_trace.specs.TraceRecords.{output_of}

abbrev pub word : EventKind → List ℕ
word kind.Start = codes "start"
word kind.Resume = codes "resume"
word kind.Yield = codes "yield"
word kind.Quit = codes "quit"
word kind.Abandon = codes "abandon"

-- the line of a position, from 1
abbrev pub line_number : Sources → Pos → ℕ
line_number sources pos = 1 + count_by (λ byte. byte == 10) (take pos.at (text_of sources pos.file))

-- `EVENT FILE:LINE NUMBER`
abbrev pub line : Sources → Event → List ℕ
line sources event =
    let file = unwrap_or (slice_get sources.names event.at.file) [] in
    word event.kind ++ codes " " ++ file ++ codes ":" ++ decimal (line_number sources event.at) ++ codes " "
    ++ decimal event.instance ++ codes "\n"

-- the lines of the events
abbrev pub lines_of : Sources → List TraceRecord → List ℕ
lines_of sources [] = []
lines_of sources (frame.Byte byte ∷ more) = lines_of sources more
lines_of sources (frame.Event event ∷ more) = line sources event ++ lines_of sources more

-- what a sink has taken, where that is known, and how often it has failed
pub record Sink : Type 0 where
  pub taken : Option (List ℕ)
  pub faults : ℕ

abbrev pub sink : Option (List ℕ) → ℕ → Sink
sink taken faults = record { taken = taken; faults = faults }

-- err has failed meanwhile, and takes no more lines
abbrev pub StopsListening : ErrStatus → (old new : Sink) → Type 0
StopsListening after old new = (after ≡ listening.Failed) × Rose old.faults new.faults

-- err takes the lines, or fails at a part of them; where it takes no more lines it takes nothing
abbrev pub Hears : (before after : ErrStatus) → (old new : Sink) → (lines : List ℕ) → Type 0
Hears listening.Yes after old new lines =
    ((after ≡ listening.Yes) × Took old.taken new.taken lines)
    ⊎ (StopsListening after old new × TookFront old.taken new.taken lines)
Hears before after old new lines = (after ≡ before) × (new ≡ old)

-- err takes a prefix of the lines, and its state stays unless it failed or had no memory; where it takes no more lines it takes nothing
abbrev pub HearsPart : (before after : ErrStatus) → (old new : Sink) → (lines : List ℕ) → Type 0
HearsPart listening.Yes after old new lines =
    ((after ≡ listening.Yes) ⊎ StopsListening after old new ⊎ (after ≡ listening.NoMemory)) × TookFront old.taken new.taken lines
HearsPart before after old new lines = (after ≡ before) × (new ≡ old)

-- the records are written: their output to out, and the lines of their events to err
pub record WritesRecords (sources : Sources) (frames : List TraceRecord) (out_old out_new : Sink) (before after : ErrStatus)
    (err_old err_new : Sink) : Type 0 where
  pub out : Took out_old.taken out_new.taken (output_of frames)
  pub err : Hears before after err_old err_new (lines_of sources frames)

-- out takes a prefix of the output of the first of the records, and this holds of the lines of their events
pub record WritesFront (sources : Sources) (frames : List TraceRecord) (out_old out_new : Sink) (Heard : (lines : List ℕ) → Type 0) : Type 0 where
  pub reported : List TraceRecord
  pub more : List TraceRecord
  pub split : frames ≡ reported ++ more
  pub out : TookFront out_old.taken out_new.taken (output_of reported)
  pub err : Heard (lines_of sources reported)
