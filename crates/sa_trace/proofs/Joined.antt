-- Records one after another, and what remains of pieces.
use Rattle.std.proofs.Common.{◌≡◌, ◌≢◌, inl, inr, ◌+◌, ◌≤◌, Bool, true, false, true≢false, ℕ, List, [], ◌∷◌, ◌++◌, length, take, drop, refl, sym, ap, subst, ◌∙◌, arith, append_assoc, append-nil, length-drop}
use Rattle.std.proofs.Math.Seq.{take-add}
use Rattle.sa_ast.specs.declared.pos.Pos.{Pos}
use Rattle.sa_ast.specs.declared.pos.Sources.{Sources}
use Rattle.sa_trace.specs.declared.trace_record.TraceRecord.{TraceRecord}
use Rattle.sa_trace.specs.declared.trace_record.TraceRecord.TheVariants as frame
use Rattle.sa_trace.specs.TraceRecords.{AreTraceRecords, ArePlaced, BeginsNone, IsTraceRecord}
use Rattle.sa_trace.specs.declared.first_record.FirstRecord.{FirstRecord}
use Rattle.sa_trace.specs.declared.first_record.FirstRecord.TheVariants as found
use Rattle.sa_trace.specs.Pieces.{AreWrong, Finds, HasRead, Keeps, ParserState, size_of}

module _ (positions : List Pos) (sources : Sources) where
  -- records after records
  pub joined : (front back : List ℕ) (frames more : List TraceRecord) → AreTraceRecords positions sources front frames → AreTraceRecords positions sources back more → AreTraceRecords positions sources (front ++ back) (frames ++ more)
  joined front back [] more none are = subst (λ (xs : List ℕ). AreTraceRecords positions sources (xs ++ back) more) (sym none) are
  joined front back (one ∷ frames) more (first, rest, split, is, others) are = (
    first,
    rest ++ back,
    ap (λ (xs : List ℕ). xs ++ back) split ∙ append_assoc first rest back,
    is,
    joined rest back frames more others are,
  )

  -- one record
  pub alone : (bytes : List ℕ) (one : TraceRecord) → IsTraceRecord positions sources bytes one → AreTraceRecords positions sources bytes (one ∷ [])
  alone bytes one is = (bytes, [], sym (append-nil bytes), is, refl)

  -- one more record
  pub one-more : (bytes : List ℕ) (at size : ℕ) (left : List ℕ) (frames more : List TraceRecord) (one : TraceRecord) → at ≤ length bytes → left ≡ drop at bytes → AreTraceRecords positions sources (take at bytes) frames → size ≡ size_of one → IsTraceRecord positions sources (take (size_of one) left) one → size_of one ≤ length left → more ≡ frames ++ one ∷ [] → (at + size ≤ length bytes) × AreTraceRecords positions sources (take (at + size) bytes) more
  one-more bytes at size left frames more one within left_is are size_is is fits more_is = (
    omega (arith, within, fits, size_is, ap length left_is, length-drop at bytes),
    subst (AreTraceRecords positions sources (take (at + size) bytes)) (sym more_is)
        (subst (λ (n : ℕ). AreTraceRecords positions sources (take (at + n) bytes) (frames ++ one ∷ [])) (sym size_is)
        (subst (λ (xs : List ℕ). AreTraceRecords positions sources xs (frames ++ one ∷ [])) (sym (take-add at (size_of one) bytes))
        (joined (take at bytes) (take (size_of one) (drop at bytes)) frames (one ∷ []) are (alone (take (size_of one) (drop at bytes)) one
        (subst (λ (xs : List ℕ). IsTraceRecord positions sources (take (size_of one) xs) one) left_is is))))),
  )

  -- where no whole record is found there is none
  pub found-none : (bytes : List ℕ) (what : FirstRecord) → Finds positions sources bytes what → ((one : TraceRecord) → what ≢ found.Whole one) → BeginsNone positions sources bytes
  found-none bytes (found.Whole one) finds none = absurd (none one refl)
  found-none bytes found.Part finds none = finds
  found-none bytes found.Wrong finds none = subst (BeginsNone positions sources) (append-nil bytes) (finds [])

  -- what remains of bytes after their records, where this says whether it can begin no record
  pub keeps : (kept rest : List ℕ) (wrong : Bool) → kept ≡ rest → BeginsNone positions sources rest → (wrong ≡ true → AreWrong positions sources rest) → Keeps positions sources (record { begun = kept; wrong = wrong }) rest
  keeps kept rest false is none wrongs = inl (refl, is, none)
  keeps kept rest true is none wrongs = inr (refl, wrongs refl)

  -- the positions of the events of records are in texts
  pub are-placed : (bytes : List ℕ) (frames : List TraceRecord) → AreTraceRecords positions sources bytes frames → ArePlaced sources frames
  are-placed bytes [] none = tt
  are-placed bytes (frame.Byte byte ∷ more) (first, rest, split, is, others) = are-placed rest more others
  are-placed bytes (frame.Event event ∷ more) (first, rest, split, reports, others) = (reports.placed, are-placed rest more others)

  -- what is wrong stays wrong
  wrong-on : (rest bytes : List ℕ) → AreWrong positions sources rest → AreWrong positions sources (rest ++ bytes)
  wrong-on rest bytes wrong more = subst (BeginsNone positions sources) (sym (append_assoc rest bytes more)) (wrong (bytes ++ more))

  -- nothing is read where all is dropped
  pub read-none : (came bytes : List ℕ) (earlier : List TraceRecord) (left : ParserState) → left.wrong ≡ true → HasRead positions sources came earlier left → HasRead positions sources (came ++ bytes) (earlier ++ []) left
  read-none came bytes earlier left is read = record {
    front = read.front;
    rest = read.rest ++ bytes;
    split = ap (λ (xs : List ℕ). xs ++ bytes) read.split ∙ append_assoc read.front read.rest bytes;
    frames_are = subst (AreTraceRecords positions sources read.front) (sym (append-nil earlier)) read.frames_are;
    keeps = dropped read.keeps;
  }
    where
      dropped : Keeps positions sources left read.rest → Keeps positions sources left (read.rest ++ bytes)
      dropped (inl (not, begun, none)) = absurd (true≢false (sym is ∙ not))
      dropped (inr (wrong, are)) = inr (wrong, wrong-on read.rest bytes are)

  -- the records of what had begun and of the bytes after it
  pub read-on : (came bytes front rest : List ℕ) (earlier frames : List TraceRecord) (old new : ParserState) → old.wrong ≡ false → old.begun ++ bytes ≡ front ++ rest → AreTraceRecords positions sources front frames → Keeps positions sources new rest → HasRead positions sources came earlier old → HasRead positions sources (came ++ bytes) (earlier ++ frames) new
  read-on came bytes front rest earlier frames old new is split are keeps read = record {
    front = read.front ++ front;
    rest = rest;
    split = ap (λ (xs : List ℕ). xs ++ bytes) (read.split ∙ ap (λ (xs : List ℕ). read.front ++ xs) (begun read.keeps)) ∙ append_assoc read.front old.begun bytes ∙ ap (λ (xs : List ℕ). read.front ++ xs) split ∙ sym (append_assoc read.front front rest);
    frames_are = joined read.front front earlier frames read.frames_are are;
    keeps = keeps;
  }
    where
      begun : Keeps positions sources old read.rest → read.rest ≡ old.begun
      begun (inl (not, begun_is, none)) = sym begun_is
      begun (inr (wrong, wrongs)) = absurd (true≢false (sym wrong ∙ is))
