-- Which record bytes begin with.
use Rattle.std.proofs.Common.{◌≡◌, ◌≢◌, ◌<◌, ◌≤◌, ◌+◌, ℕ, List, [], ◌∷◌, ◌++◌, length, take, drop, Some, refl, sym, ap, subst, ◌∙◌, arith, append_assoc, length-append, length-take, length-drop}
use Rattle.std.specs.Prelude.{slice_get, slice_index, slice_index_or}
use Rattle.std.specs.Int.{from_le_bytes, w32, w64}
use Rattle.std.proofs.lemmas.List.{take-append-le}
use Rattle.std.proofs.Math.Seq.{take-add, take-append_seam}
use Rattle.sa_ast.specs.declared.pos.Pos.{Pos}
use Rattle.sa_ast.specs.declared.pos.Sources.{Sources}
use Rattle.sa_trace.specs.declared.trace_record.Event.{Event}
use Rattle.sa_trace.specs.declared.trace_record.TraceRecord.TheVariants as frame
use Rattle.sa_trace.specs.declared.trace_record.EventKind.{EventKind}
use Rattle.sa_trace.specs.TraceRecords.{BeginsNone, IsTraceRecord, IsPlace, EncodesEvent, kind_number}
use Rattle.sa_trace.specs.Pieces.{AreWrong}

-- ---- cells

abbrev first : List ℕ → ℕ
first bytes = slice_index_or bytes 0 0

abbrev second : List ℕ → ℕ
second bytes = slice_index_or bytes 1 0

zero-one : ◌≡◌ {A = ℕ} 0 1 → ⊥
zero-one e = omega (arith, e)

one-zero : ◌≡◌ {A = ℕ} 1 0 → ⊥
one-zero e = omega (arith, e)

module _ (positions : List Pos) (sources : Sources) where
  -- the cells of bytes that begin with an event
  cells : (bytes front rest : List ℕ) (event : Event) → bytes ≡ front ++ rest → (reports : EncodesEvent positions sources front event) → bytes ≡ 1 ∷ kind_number event.kind ∷ (reports.site ++ (reports.instance ++ rest))
  cells bytes front rest event is reports =
      is ∙ ap (λ (xs : List ℕ). xs ++ rest) reports.bytes_are
      ∙ ap (λ (xs : List ℕ). 1 ∷ kind_number event.kind ∷ xs) (append_assoc reports.site reports.instance rest)

  pub none-nil : BeginsNone positions sources []
  none-nil front rest (frame.Byte byte) is one =
      let e = ap length (is ∙ ap (λ (xs : List ℕ). xs ++ rest) one) in
      omega (arith, e)
  none-nil front rest (frame.Event event) is reports =
      let e = ap length (cells [] front rest event is reports) in
      omega (arith, e)

  pub none-zero : BeginsNone positions sources (0 ∷ [])
  none-zero front rest (frame.Byte byte) is one =
      let e = ap length (is ∙ ap (λ (xs : List ℕ). xs ++ rest) one) in
      omega (arith, e)
  none-zero front rest (frame.Event event) is reports = zero-one (ap first (cells (0 ∷ []) front rest event is reports))

  -- an event has 14 bytes
  pub none-short : (bytes : List ℕ) → length bytes < 13 → BeginsNone positions sources (1 ∷ bytes)
  none-short bytes short front rest (frame.Byte byte) is one = one-zero (ap first (is ∙ ap (λ (xs : List ℕ). xs ++ rest) one))
  none-short bytes short front rest (frame.Event event) is reports =
      let e = ap length (cells (1 ∷ bytes) front rest event is reports) in
      let inner = length-append reports.instance rest in
      let outer = length-append reports.site (reports.instance ++ rest) in
      omega (arith, short, e, inner, outer, reports.of_site, reports.of_instance)

  -- no record begins with another byte
  pub wrong-first : (tag : ℕ) (bytes : List ℕ) → tag ≢ 0 → tag ≢ 1 → AreWrong positions sources (tag ∷ bytes)
  wrong-first tag bytes not0 not1 more front rest (frame.Byte byte) is one = not0 (ap first (is ∙ ap (λ (xs : List ℕ). xs ++ rest) one))
  wrong-first tag bytes not0 not1 more front rest (frame.Event event) is reports =
      not1 (ap first (cells (tag ∷ bytes ++ more) front rest event is reports))

  -- no event is of a kind that doesn't exist
  pub wrong-kind : (number : ℕ) (bytes : List ℕ) → ((kind : EventKind) → kind_number kind ≢ number) → AreWrong positions sources (1 ∷ number ∷ bytes)
  wrong-kind number bytes none more front rest (frame.Byte byte) is one = one-zero (ap first (is ∙ ap (λ (xs : List ℕ). xs ++ rest) one))
  wrong-kind number bytes none more front rest (frame.Event event) is reports =
      none event.kind (sym (ap second (cells (1 ∷ number ∷ bytes ++ more) front rest event is reports)))

  -- nor at a site that doesn't exist
  pub wrong-site : (number : ℕ) (bytes : List ℕ) → 4 ≤ length bytes → ((at : Pos) → slice_get positions (from_le_bytes w32 (take 4 bytes)) ≡ Some at → IsPlace sources at → ⊥) → AreWrong positions sources (1 ∷ number ∷ bytes)
  wrong-site number bytes long none more front rest (frame.Byte byte) is one = one-zero (ap first (is ∙ ap (λ (xs : List ℕ). xs ++ rest) one))
  wrong-site number bytes long none more front rest (frame.Event event) is reports =
      let following : bytes ++ more ≡ reports.site ++ (reports.instance ++ rest) = ap (drop 2) (cells (1 ∷ number ∷ bytes ++ more) front rest event is reports) in
      let ours : take 4 (bytes ++ more) ≡ take 4 bytes = take-append-le 4 bytes more long in
      let theirs : take 4 (reports.site ++ (reports.instance ++ rest)) ≡ reports.site =
      subst (λ (n : ℕ). take n (reports.site ++ (reports.instance ++ rest)) ≡ reports.site) reports.of_site (take-append_seam reports.site (reports.instance ++ rest))
      in
      let same : take 4 bytes ≡ reports.site = sym ours ∙ ap (take 4) following ∙ theirs in
      none event.at (subst (λ (xs : List ℕ). slice_get positions (from_le_bytes w32 xs) ≡ Some event.at) (sym same) reports.site_is) reports.placed

  -- an event from its parts
  pub whole-event : (kind : EventKind) (at : Pos) (number : ℕ) (bytes : List ℕ) → kind_number kind ≡ number → 12 ≤ length bytes → slice_get positions (from_le_bytes w32 (take 4 bytes)) ≡ Some at → IsPlace sources at → IsTraceRecord positions sources (take 14 (1 ∷ number ∷ bytes)) (frame.Event (record { kind = kind; at = at; instance = from_le_bytes w64 (take 8 (drop 4 bytes)) }))
  whole-event kind at number bytes is long found placed = record {
    site = take 4 bytes;
    instance = take 8 (drop 4 bytes);
    bytes_are = ap (λ (xs : List ℕ). 1 ∷ number ∷ xs) (take-add 4 8 bytes) ∙ ap (λ (n : ℕ). 1 ∷ n ∷ take 4 bytes ++ take 8 (drop 4 bytes)) (sym is);
    of_site = omega (arith, long, length-take 4 bytes);
    of_instance = omega (arith, long, length-take 8 (drop 4 bytes), length-drop 4 bytes);
    site_is = found;
    instance_is = refl;
    placed = placed;
  }

  -- an event from the chunks that encode it
  pub event-reported : (bytes left : List ℕ) (kind : EventKind) (at : Pos) (site following instance : List ℕ) (place count : ℕ) → 1 ≤ length bytes → left ≡ drop 1 bytes → kind_number kind ≡ slice_index bytes 0 → site ≡ take 4 left → following ≡ drop 4 left → length following + 4 ≡ length left → instance ≡ take 8 following → 8 ≤ length following → place ≡ from_le_bytes w32 site → count ≡ from_le_bytes w64 instance → slice_get positions place ≡ Some at → IsPlace sources at → IsTraceRecord positions sources (take 14 (1 ∷ bytes)) (frame.Event (record { kind = kind; at = at; instance = count })) × (14 ≤ length (1 ∷ bytes))
  event-reported [] left kind at site following instance place count some left_is is site_is behind_is long instance_is enough place_is count_is found placed = absurd (omega (arith, some))
  event-reported (number ∷ rest) left kind at site following instance place count some left_is is site_is behind_is long instance_is enough place_is count_is found placed =
      let size : length left ≡ length rest = ap length left_is in
      let all : 12 ≤ length rest = omega (arith, long, enough, size) in
      let chunk : instance ≡ take 8 (drop 4 rest) = instance_is ∙ ap (take 8) (behind_is ∙ ap (drop 4) left_is) in
      let counted : count ≡ from_le_bytes w64 (take 8 (drop 4 rest)) = count_is ∙ ap (from_le_bytes w64) chunk in
      let at_site : place ≡ from_le_bytes w32 (take 4 rest) = place_is ∙ ap (from_le_bytes w32) (site_is ∙ ap (take 4) left_is) in (
        subst (λ (n : ℕ). IsTraceRecord positions sources (take 14 (1 ∷ number ∷ rest)) (frame.Event (record { kind = kind; at = at; instance = n }))) (sym counted)
            (whole-event kind at number rest is all (subst (λ (n : ℕ). slice_get positions n ≡ Some at) at_site found) placed),
        omega (arith, all),
      )
