-- Records that come in pieces: what remains of the bytes that have come, after their records.
use Rattle.std.specs.Prelude.{◌≡◌, ◌⊎◌, ◌≤◌, ℕ, Bool, true, false, List, ◌++◌, length, take}
use Rattle.sa_ast.specs.declared.pos.Pos.{Pos}
use Rattle.sa_ast.specs.declared.pos.Sources.{Sources}
use Rattle.sa_trace.specs.declared.first_record.FirstRecord.{FirstRecord}
use Rattle.sa_trace.specs.declared.first_record.FirstRecord.TheVariants as found
use Rattle.sa_trace.specs.declared.trace_record.TraceRecord.{TraceRecord}
use Rattle.sa_trace.specs.declared.trace_record.TraceRecord.TheVariants as frame
use Rattle.sa_trace.specs.TraceRecords.{AreTraceRecords, BeginsNone, IsTraceRecord}

-- how many bytes a record has
abbrev pub size_of : TraceRecord → ℕ
size_of (frame.Byte byte) = 2
size_of (frame.Event event) = 14

-- the record that has begun, and whether what came after the records begins none, so that all that follows is dropped
pub record ParserState : Type 0 where
  pub begun : List ℕ
  pub wrong : Bool

module _ (positions : List Pos) (sources : Sources) where
  -- these bytes begin no record, whatever follows
  abbrev pub AreWrong : List ℕ → Type 0
  AreWrong bytes = (more : List ℕ) → BeginsNone positions sources (bytes ++ more)

  -- what the bytes begin with
  abbrev pub Finds : List ℕ → FirstRecord → Type 0
  Finds bytes (found.Whole one) = IsTraceRecord positions sources (take (size_of one) bytes) one × (size_of one ≤ length bytes)
  Finds bytes found.Part = BeginsNone positions sources bytes
  Finds bytes found.Wrong = AreWrong bytes

  -- these bytes remain after the records
  abbrev pub Keeps : ParserState → List ℕ → Type 0
  Keeps left rest =
      ((left.wrong ≡ false) × (left.begun ≡ rest) × BeginsNone positions sources rest) ⊎ ((left.wrong ≡ true) × AreWrong rest)

  -- the bytes that have come are these records and what remains
  pub record HasRead (bytes : List ℕ) (frames : List TraceRecord) (left : ParserState) : Type 0 where
    pub front : List ℕ
    pub rest : List ℕ
    pub split : bytes ≡ front ++ rest
    pub frames_are : AreTraceRecords positions sources front frames
    pub keeps : Keeps left rest
