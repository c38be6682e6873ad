-- What the adapters over real files and streams do.
use Rattle.std.specs.Prelude.{◌≡◌, ℕ, Bool, List, [], ◌∷◌, take, Option, Result, Ok, Err, refl}
use Rattle.std.specs.Coded.{Coded, code_by, coded×, coded_ℕ, coded_bool}
use Rattle.std.specs.Io.KnownBytes.{Keeps, Appends, Consumes, IsAtEnd}
use Rattle.host_io.specs.Faults.{one_more}
use Rattle.host_io.specs.declared.source.Take.{Take}
use Rattle.host_io.specs.declared.source.Take.TheVariants.{Byte, End, Failed}
use Rattle.host_io.specs.declared.store.Outage.{Outage}
use Rattle.host_io.specs.declared.store.Outage.TheVariants as outage

-- a call counted a fault exactly if it failed, which is its only `Outage`
abbrev pub CountsOutage : {T : Type 0} → Result T Outage → ℕ → ℕ → Type 0
CountsOutage (Ok x) before after = after ≡ before
CountsOutage (Err e) before after = (e ≡ outage.Failed) × (after ≡ one_more before)

-- the count of faults after an answer
abbrev pub faults_after : Take → ℕ → ℕ
faults_after (Byte b) faults = faults
faults_after End faults = faults
faults_after Failed faults = one_more faults

-- what an answer leaves of the bytes that a reader has left, if they are known
abbrev pub Draws : Take → Option (List ℕ) → Option (List ℕ) → Type 0
Draws (Byte b) before after = Consumes before after (b ∷ [])
Draws End before after = Keeps before after × IsAtEnd after
Draws Failed before after = Keeps before after

-- a prefix of these is appended to the known bytes of a writer
abbrev pub AppendsFront : Option (List ℕ) → Option (List ℕ) → List ℕ → Type 0
AppendsFront before after bytes = (k : ℕ) × Appends before after (take k bytes)

-- a reader, whether it has reported its end, and how often it has failed
pub record ReaderState (R : Type 0) : Type 0 where
  pub reader : R
  pub ended : Bool
  pub faults : ℕ

-- a writer, and how often it has failed
pub record WriterState (W : Type 0) : Type 0 where
  pub writer : W
  pub faults : ℕ

-- the reader, the end and the count
abbrev pub reader_code : {R : Type 0} → Coded R → Coded (ReaderState R)
reader_code {R} code =
    code_by (R × (Bool × ℕ)) (coded× code (coded× coded_bool coded_ℕ))
    (λ s. (s.reader, (s.ended, s.faults)))
    (λ p. record { reader = p.0; ended = p.1.0; faults = p.1.1 })
    (λ _. refl)

-- the writer and the count
abbrev pub writer_code : {W : Type 0} → Coded W → Coded (WriterState W)
writer_code {W} code =
    code_by (W × ℕ) (coded× code coded_ℕ)
    (λ s. (s.writer, s.faults))
    (λ p. record { writer = p.0; faults = p.1 })
    (λ _. refl)
