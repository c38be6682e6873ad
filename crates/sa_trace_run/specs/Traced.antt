-- The effect of the run of a traced module on out and err.
use Rattle.std.specs.Prelude.{◌≡◌, ◌⊎◌, ◌≤◌, ℕ, List, ◌++◌}
use Rattle.host_io.specs.Faults.{Rose}
use Rattle.host_io.specs.Output.{TookFront}
use Rattle.sa_ast.specs.declared.pos.Pos.{Pos}
use Rattle.sa_ast.specs.declared.pos.Sources.{Sources}
use Rattle.sa_trace.specs.TraceRecords.{AreTraceRecords, TraceEncoding, output_of}
use Rattle.sa_trace.specs.Writing.{WritesRecords, Hears, HearsPart, Sink, lines_of}
use Rattle.sa_trace.specs.Pieces.{HasRead, ParserState}
use Rattle.sa_trace.specs.declared.trace_record.TraceRecord.{TraceRecord}
use Rattle.sa_trace.specs.declared.sinks.ErrStatus.{ErrStatus}
use Rattle.sa_trace.specs.declared.sinks.ErrStatus.TheVariants as listening
use Rattle.wa_run.specs.declared.answer.Answer.{Answer}
use Rattle.wa_run.specs.declared.answer.Answer.TheVariants as answer

-- out and err after a run, and whether err still takes lines
pub record Sinks : Type 0 where
  pub out_old : Sink
  pub out_new : Sink
  pub err_old : Sink
  pub err_new : Sink
  pub listening : ErrStatus

abbrev pub sinks : (out_old out_new err_old err_new : Sink) → ErrStatus → Sinks
sinks out_old out_new err_old err_new listening =
    record { out_old = out_old; out_new = out_new; err_old = err_old; err_new = err_new; listening = listening }

-- what is answered where out fails: so much, or that the input had failed before
abbrev pub IsOutFault : Answer → Type 0
IsOutFault given = (given ≡ answer.OutFault) ⊎ (given ≡ answer.InFault)

-- and where memory runs out on the way to out and err
abbrev pub IsShort : Answer → ErrStatus → Type 0
IsShort given now = (given ≡ answer.NoMemory) ⊎ ((given ≡ answer.InFault) × (now ≡ listening.NoMemory))

module _ (positions : List Pos) (sources : Sources) where
  -- all records of the bytes were written
  pub record AreRecordsWritten (bytes : List ℕ) (s : Sinks) : Type 0 where
    pub frames : List TraceRecord
    pub framed : TraceEncoding positions sources bytes frames
    pub hands : WritesRecords sources frames s.out_old s.out_new listening.Yes s.listening s.err_old s.err_new

  -- so were the records of a prefix of the bytes, but for a part of their output, and this holds of the lines of their events
  pub record FrontIsWritten (bytes : List ℕ) (s : Sinks) (Heard : (lines : List ℕ) → Type 0) : Type 0 where
    pub front : List ℕ
    pub rest : List ℕ
    pub split : bytes ≡ front ++ rest
    pub reported : List TraceRecord
    pub are : AreTraceRecords positions sources front reported
    pub out : TookFront s.out_old.taken s.out_new.taken (output_of reported)
    pub err : Heard (lines_of sources reported)

  -- The bytes are records, which were written: all of them, or up to where out failed, or to where memory ran out
  abbrev pub AreReported : (bytes : List ℕ) → Sinks → Answer → Type 0
  AreReported bytes s given =
      AreRecordsWritten bytes s
      ⊎ (IsOutFault given × Rose s.out_old.faults s.out_new.faults
      × FrontIsWritten bytes s (Hears listening.Yes s.listening s.err_old s.err_new))
      ⊎ (IsShort given s.listening × FrontIsWritten bytes s (HearsPart listening.Yes s.listening s.err_old s.err_new))

  -- so far all records of these bytes were written, and this remains after them
  pub record SoFar (bytes : List ℕ) (left : ParserState) (s : Sinks) : Type 0 where
    pub frames : List TraceRecord
    pub read : HasRead positions sources bytes frames left
    pub hands : WritesRecords sources frames s.out_old s.out_new listening.Yes s.listening s.err_old s.err_new
    pub out_count : s.out_old.faults ≤ s.out_new.faults
    pub err_count : s.err_old.faults ≤ s.err_new.faults
