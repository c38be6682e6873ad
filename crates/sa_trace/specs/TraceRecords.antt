-- What a traced module puts: a sequence of records, each a byte of the output or an event.
use Rattle.std.specs.Prelude.{◌≡◌, ◌<◌, ⊤, ℕ, List, [], ◌∷◌, ◌++◌, length, slice_get, Some}
use Rattle.std.specs.Int.{from_le_bytes, w32, w64}
use Rattle.sa_ast.specs.declared.pos.Pos.{Pos}
use Rattle.sa_ast.specs.declared.pos.Sources.{Sources}
use Rattle.sa_ast.specs.Sources.{text_of}
use Rattle.sa_trace.specs.declared.trace_record.Event.{Event}
use Rattle.sa_trace.specs.declared.trace_record.TraceRecord.{TraceRecord}
use Rattle.sa_trace.specs.declared.trace_record.TraceRecord.TheVariants as frame
use Rattle.sa_trace.specs.declared.trace_record.EventKind.{EventKind}
use Rattle.sa_trace.specs.declared.trace_record.EventKind.TheVariants as kind

-- the number of a kind of event
abbrev pub kind_number : EventKind → ℕ
kind_number kind.Start = 0
kind_number kind.Resume = 1
kind_number kind.Yield = 2
kind_number kind.Quit = 3
kind_number kind.Abandon = 4

-- the position is in one of the texts, whose lines can be counted
abbrev pub IsPlace : Sources → Pos → Type 0
IsPlace sources pos = (pos.file < length sources.texts) × (length (text_of sources pos.file) < 4294967295)

-- where the sites of the program have these positions, in these texts
module _ (positions : List Pos) (sources : Sources) where
  -- the bytes encode the event: its kind by a number, its site in 4 bytes, and the number of its instance in 8
  pub record EncodesEvent (bytes : List ℕ) (event : Event) : Type 0 where
    pub site : List ℕ
    pub instance : List ℕ
    pub bytes_are : bytes ≡ 1 ∷ kind_number event.kind ∷ site ++ instance
    pub of_site : length site ≡ 4
    pub of_instance : length instance ≡ 8
    pub site_is : slice_get positions (from_le_bytes w32 site) ≡ Some event.at
    pub instance_is : event.instance ≡ from_le_bytes w64 instance
    pub placed : IsPlace sources event.at

  -- the bytes are the record
  abbrev pub IsTraceRecord : List ℕ → TraceRecord → Type 0
  IsTraceRecord bytes (frame.Byte byte) = bytes ≡ 0 ∷ byte ∷ []
  IsTraceRecord bytes (frame.Event event) = EncodesEvent bytes event

  -- the bytes are these records, one after another
  abbrev pub AreTraceRecords : List ℕ → List TraceRecord → Type 0
  AreTraceRecords bytes [] = bytes ≡ []
  AreTraceRecords bytes (one ∷ more) = (first rest : List ℕ) × (bytes ≡ first ++ rest) × IsTraceRecord first one × AreTraceRecords rest more

  -- no prefix of the bytes is a record
  abbrev pub BeginsNone : List ℕ → Type 0
  BeginsNone bytes = (first rest : List ℕ) (one : TraceRecord) → bytes ≡ first ++ rest → IsTraceRecord first one → ⊥

  -- the bytes are these records and what begins with none: a part of one, or what is dropped
  pub record TraceEncoding (bytes : List ℕ) (frames : List TraceRecord) : Type 0 where
    pub front : List ℕ
    pub rest : List ℕ
    pub split : bytes ≡ front ++ rest
    pub frames_are : AreTraceRecords front frames
    pub ends : BeginsNone rest

-- the bytes of the output
abbrev pub output_of : List TraceRecord → List ℕ
output_of [] = []
output_of (frame.Byte byte ∷ more) = byte ∷ output_of more
output_of (frame.Event event ∷ more) = output_of more

-- the positions of the events are in the texts
abbrev pub ArePlaced : Sources → List TraceRecord → Type 0
ArePlaced sources [] = ⊤
ArePlaced sources (frame.Byte byte ∷ more) = ArePlaced sources more
ArePlaced sources (frame.Event event ∷ more) = IsPlace sources event.at × ArePlaced sources more
