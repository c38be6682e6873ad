-- Records that are written one after another.
use Rattle.std.proofs.Common.{◌≡◌, ◌⊎◌, inl, inr, ◌<◌, ◌≤◌, ◌+◌, ℕ, suc, min, get_or, List, [], ◌∷◌, ◌++◌, length, take, drop, Option, Some, None, refl, sym, ap, subst, ◌∙◌, arith, append_assoc, append-nil}
use Rattle.std.specs.Prelude.{Err, Ok, OnErr, Result, option_map}
use Rattle.std.proofs.Math.Seq.{take-length}
use Rattle.std.proofs.lemmas.Bool.{cases_lt}
use Rattle.std.proofs.lemmas.List.{drop_more, take-append-drop, take-append-le, take_all, take_more}
use Rattle.host_io.specs.Faults.{Rose}
use Rattle.host_io.specs.Output.{Took, TookFront}
use Rattle.sa_ast.specs.declared.pos.Sources.{Sources}
use Rattle.sa_trace.specs.declared.trace_record.Event.{Event}
use Rattle.sa_trace.specs.declared.trace_record.TraceRecord.{TraceRecord}
use Rattle.sa_trace.specs.declared.trace_record.TraceRecord.TheVariants as frame
use Rattle.sa_trace.specs.declared.sinks.ErrStatus.{ErrStatus}
use Rattle.sa_trace.specs.declared.sinks.ErrStatus.TheVariants as listening
use Rattle.sa_trace.specs.TraceRecords.{ArePlaced, IsPlace, output_of}
use Rattle.sa_trace.specs.Writing.{Hears, HearsPart, Sink, StopsListening, line, lines_of}

-- ---- what a sink takes

pub took-none : (output : Option (List ℕ)) → Took output output []
took-none None = refl
took-none (Some taken) = ap Some (sym (append-nil taken))

pub took-more : (a b c : Option (List ℕ)) (first more : List ℕ) → Took a b first → Took b c more → Took a c (first ++ more)
took-more None b c first more one two = two ∙ ap (option_map (λ (taken : List ℕ). taken ++ more)) one
took-more (Some given) b c first more one two =
    two ∙ ap (option_map (λ (taken : List ℕ). taken ++ more)) one ∙ ap Some (append_assoc given first more)

-- all of a piece is a prefix of it
pub front-whole : (old new : Option (List ℕ)) (bytes : List ℕ) → Took old new bytes → TookFront old new bytes
front-whole old new bytes took = (length bytes, subst (Took old new) (sym (take-length bytes)) took)

take_min : (k : ℕ) (bytes : List ℕ) → take (min k (length bytes)) bytes ≡ take k bytes
take_min k bytes = elim (cases_lt k (length bytes)) [
  | inl less ↦
      let same : min k (length bytes) ≡ k = omega arith in
      ap (λ n. take n bytes) same
  | inr past ↦
      let same : min k (length bytes) ≡ length bytes = omega arith in
      ap (λ n. take n bytes) same ∙ take_all (length bytes) bytes (omega arith) ∙ sym (take_all k bytes past)
]

-- a prefix of a piece is one of a longer piece
pub front-longer : (old new : Option (List ℕ)) (bytes more : List ℕ) → TookFront old new bytes → TookFront old new (bytes ++ more)
front-longer old new bytes more (k, took) =
    let shorter : take (min k (length bytes)) (bytes ++ more) ≡ take k bytes =
    take-append-le (min k (length bytes)) bytes more (omega arith) ∙ take_min k bytes in
    (min k (length bytes), subst (Took old new) (sym shorter) took)

past : (first more : List ℕ) (k n : ℕ) → n ≡ length first + k → take n (first ++ more) ≡ first ++ take k more
past [] more k n is =
    let same : n ≡ k = omega (arith, is) in
    ap (λ (i : ℕ). take i more) same
past (x ∷ first) more k n is =
    let next : n ≡ suc (length first + k) = omega (arith, is) in
    ap (λ (i : ℕ). take i (x ∷ first ++ more)) next ∙ ap (λ (xs : List ℕ). x ∷ xs) (past first more k (length first + k) refl)

-- a prefix of a piece after another piece
pub front-following : (a b c : Option (List ℕ)) (first more : List ℕ) → Took a b first → TookFront b c more → TookFront a c (first ++ more)
front-following a b c first more one (k, two) =
    (length first + k, subst (Took a c) (sym (past first more k (length first + k) refl)) (took-more a b c first (take k more) one two))

pub rose-following : (a b c : ℕ) → a ≤ b → Rose b c → Rose a c
rose-following a b c before (inl less) = inl (omega (arith, before, less))
rose-following a b c before (inr last) = inr last

pub on-err : {T E P : Type 0} (r : Result T E) → P → OnErr r P
on-err (Ok value) holds = tt
on-err (Err error) holds = holds

-- ---- what err takes

pub hears-none : (before : ErrStatus) (s : Sink) → Hears before before s s []
hears-none listening.Yes s = inl (refl, took-none s.taken)
hears-none listening.Failed s = (refl, refl)
hears-none listening.NoMemory s = (refl, refl)

-- lines after lines
pub hears-more : (before middle after : ErrStatus) (old now new : Sink) (lines more : List ℕ) → old.faults ≤ now.faults → Hears before middle old now lines → Hears middle after now new more → Hears before after old new (lines ++ more)
hears-more listening.Yes middle after old now new lines more count (inl (is, took)) next =
    on (subst (λ (one : ErrStatus). Hears one after now new more) is next)
  where
    on : Hears listening.Yes after now new more → Hears listening.Yes after old new (lines ++ more)
    on (inl (stays, took_more)) = inl (stays, took-more old.taken now.taken new.taken lines more took took_more)
    on (inr ((stops, rose), front)) =
        inr ((stops, rose-following old.faults now.faults new.faults count rose), front-following old.taken now.taken new.taken lines more took front)
hears-more listening.Yes middle after old now new lines more count (inr ((is, rose), front)) next =
    let still = subst (λ (one : ErrStatus). Hears one after now new more) is next in
    inr ((still.0, subst (λ (s : Sink). Rose old.faults s.faults) (sym still.1) rose), subst (λ (s : Sink). TookFront old.taken s.taken (lines ++ more)) (sym still.1) (front-longer old.taken now.taken lines more front))
hears-more listening.Failed middle after old now new lines more count (is, same) next =
    let still = subst (λ (one : ErrStatus). Hears one after now new more) is next in
    (still.0, still.1 ∙ same)
hears-more listening.NoMemory middle after old now new lines more count (is, same) next =
    let still = subst (λ (one : ErrStatus). Hears one after now new more) is next in
    (still.0, still.1 ∙ same)

-- all of the lines are a part of them
pub hears-whole : (before after : ErrStatus) (old new : Sink) (lines : List ℕ) → Hears before after old new lines → HearsPart before after old new lines
hears-whole listening.Yes after old new lines (inl (is, took)) = (inl is, front-whole old.taken new.taken lines took)
hears-whole listening.Yes after old new lines (inr (stops, front)) = (inr (inl stops), front)
hears-whole listening.Failed after old new lines heard = heard
hears-whole listening.NoMemory after old new lines heard = heard

-- a part of a line after lines
pub hears-part : (before middle after : ErrStatus) (old now new : Sink) (lines more : List ℕ) → old.faults ≤ now.faults → Hears before middle old now lines → HearsPart middle after now new more → HearsPart before after old new (lines ++ more)
hears-part listening.Yes middle after old now new lines more count (inl (is, took)) next =
    let heard = subst (λ (one : ErrStatus). HearsPart one after now new more) is next in
    (after_is heard.0, front-following old.taken now.taken new.taken lines more took heard.1)
  where
    after_is : (after ≡ listening.Yes) ⊎ StopsListening after now new ⊎ (after ≡ listening.NoMemory) → (after ≡ listening.Yes) ⊎ StopsListening after old new ⊎ (after ≡ listening.NoMemory)
    after_is (inl stays) = inl stays
    after_is (inr (inl (stops, rose))) = inr (inl (stops, rose-following old.faults now.faults new.faults count rose))
    after_is (inr (inr none)) = inr (inr none)
hears-part listening.Yes middle after old now new lines more count (inr ((is, rose), front)) next =
    let still = subst (λ (one : ErrStatus). HearsPart one after now new more) is next in (
      inr (inl (still.0, subst (λ (s : Sink). Rose old.faults s.faults) (sym still.1) rose)),
      subst (λ (s : Sink). TookFront old.taken s.taken (lines ++ more)) (sym still.1) (front-longer old.taken now.taken lines more front),
    )
hears-part listening.Failed middle after old now new lines more count (is, same) next =
    let still = subst (λ (one : ErrStatus). HearsPart one after now new more) is next in
    (still.0, still.1 ∙ same)
hears-part listening.NoMemory middle after old now new lines more count (is, same) next =
    let still = subst (λ (one : ErrStatus). HearsPart one after now new more) is next in
    (still.0, still.1 ∙ same)

-- ---- the output and the lines of records after records

pub output-more : (front back : List TraceRecord) → output_of (front ++ back) ≡ output_of front ++ output_of back
output-more [] back = refl
output-more (frame.Byte byte ∷ front) back = ap (λ (xs : List ℕ). byte ∷ xs) (output-more front back)
output-more (frame.Event event ∷ front) back = output-more front back

pub lines-more : (sources : Sources) (front back : List TraceRecord) → lines_of sources (front ++ back) ≡ lines_of sources front ++ lines_of sources back
lines-more sources [] back = refl
lines-more sources (frame.Byte byte ∷ front) back = lines-more sources front back
lines-more sources (frame.Event event ∷ front) back =
    ap (λ (xs : List ℕ). line sources event ++ xs) (lines-more sources front back)
    ∙ sym (append_assoc (line sources event) (lines_of sources front) (lines_of sources back))

-- the next record is the last of the first ones, and the first of the others
pub next-frame : (frames : List TraceRecord) (i : ℕ) (default one : TraceRecord) → i < length frames → get_or frames i default ≡ one → (frames ≡ take i frames ++ one ∷ drop (i + 1) frames) × (take (i + 1) frames ≡ take i frames ++ one ∷ [])
next-frame frames i default one within is = (
  sym (take-append-drop i frames) ∙ ap (λ (xs : List TraceRecord). take i frames ++ xs) (drop_more frames i default within ∙ ap (λ (x : TraceRecord). x ∷ drop (i + 1) frames) is),
  take_more frames i default within ∙ ap (λ (x : TraceRecord). take i frames ++ x ∷ []) is,
)

-- the position of the next event is in a text
pub placed-following : (sources : Sources) (front rest : List TraceRecord) (event : Event) → ArePlaced sources (front ++ frame.Event event ∷ rest) → IsPlace sources event.at
placed-following sources [] rest event placed = placed.0
placed-following sources (frame.Byte byte ∷ front) rest event placed = placed-following sources front rest event placed
placed-following sources (frame.Event other ∷ front) rest event placed = placed-following sources front rest event placed.1

-- ---- the first of the records are written, but for the bytes that are held

pub record SoFar (sources : Sources) (front : List TraceRecord) (held : List ℕ) (out_old out_new : Sink) (before after : ErrStatus) (err_old err_new : Sink) : Type 0 where
  pub sent : List ℕ
  pub took : Took out_old.taken out_new.taken sent
  pub output_is : sent ++ held ≡ output_of front
  pub hears : Hears before after err_old err_new (lines_of sources front)
  pub out_count : out_old.faults ≤ out_new.faults
  pub err_count : err_old.faults ≤ err_new.faults

module _ {sources : Sources} {front : List TraceRecord} {held : List ℕ} {out_old out_now : Sink} {before middle : ErrStatus} {err_old err_now : Sink} (so_far : SoFar sources front held out_old out_now before middle err_old err_now) where
  -- a byte is held
  pub so-far-byte : (byte : ℕ) (more : List ℕ) → more ≡ held ++ byte ∷ [] → SoFar sources (front ++ frame.Byte byte ∷ []) more out_old out_now before middle err_old err_now
  so-far-byte byte more is = record {
    sent = so_far.sent;
    took = so_far.took;
    output_is = ap (λ (xs : List ℕ). so_far.sent ++ xs) is ∙ sym (append_assoc so_far.sent held (byte ∷ [])) ∙ ap (λ (xs : List ℕ). xs ++ byte ∷ []) so_far.output_is ∙ sym (output-more front (frame.Byte byte ∷ []));
    hears = subst (Hears before middle err_old err_now) (sym (lines-more sources front (frame.Byte byte ∷ []) ∙ append-nil (lines_of sources front))) so_far.hears;
    out_count = so_far.out_count;
    err_count = so_far.err_count;
  }

  -- what is held is written
  pub all-sent : (taken : Option (List ℕ)) → Took out_now.taken taken held → Took out_old.taken taken (output_of front)
  all-sent taken took = subst (Took out_old.taken taken) so_far.output_is (took-more out_old.taken out_now.taken taken so_far.sent held so_far.took took)

  -- a part of it
  pub part-sent : (taken : Option (List ℕ)) → TookFront out_now.taken taken held → TookFront out_old.taken taken (output_of front)
  part-sent taken took = subst (TookFront out_old.taken taken) so_far.output_is (front-following out_old.taken out_now.taken taken so_far.sent held so_far.took took)

  -- none of it
  pub none-sent : TookFront out_old.taken out_now.taken (output_of front)
  none-sent = subst (TookFront out_old.taken out_now.taken) so_far.output_is (front-longer out_old.taken out_now.taken so_far.sent held (front-whole out_old.taken out_now.taken so_far.sent so_far.took))

  pub heard-part : HearsPart before middle err_old err_now (lines_of sources front)
  heard-part = hears-whole before middle err_old err_now (lines_of sources front) so_far.hears

  lines-event : (event : Event) → lines_of sources (front ++ frame.Event event ∷ []) ≡ lines_of sources front ++ line sources event
  lines-event event = lines-more sources front (frame.Event event ∷ []) ∙ ap (λ (xs : List ℕ). lines_of sources front ++ xs) (append-nil (line sources event))

  output-event : (event : Event) → output_of (front ++ frame.Event event ∷ []) ≡ output_of front
  output-event event = output-more front (frame.Event event ∷ []) ∙ append-nil (output_of front)

  -- an event is reported after what was held
  pub so-far-event : (event : Event) (out_new : Sink) (after : ErrStatus) (err_new : Sink) → Took out_now.taken out_new.taken held → out_now.faults ≤ out_new.faults → Hears middle after err_now err_new (line sources event) → err_now.faults ≤ err_new.faults → SoFar sources (front ++ frame.Event event ∷ []) [] out_old out_new before after err_old err_new
  so-far-event event out_new after err_new took out_more hears err_more = record {
    sent = output_of front;
    took = all-sent out_new.taken took;
    output_is = append-nil (output_of front) ∙ sym (output-event event);
    hears = subst (Hears before after err_old err_new) (sym (lines-event event)) (hears-more before middle after err_old err_now err_new (lines_of sources front) (line sources event) so_far.err_count so_far.hears hears);
    out_count = omega (arith, so_far.out_count, out_more);
    err_count = omega (arith, so_far.err_count, err_more);
  }

  -- or a part of it
  pub event-part : (event : Event) (taken : Option (List ℕ)) (after : ErrStatus) (err_new : Sink) → Took out_now.taken taken held → HearsPart middle after err_now err_new (line sources event) → TookFront out_old.taken taken (output_of (front ++ frame.Event event ∷ [])) × HearsPart before after err_old err_new (lines_of sources (front ++ frame.Event event ∷ []))
  event-part event taken after err_new took part = (
    subst (TookFront out_old.taken taken) (sym (output-event event)) (front-whole out_old.taken taken (output_of front) (all-sent taken took)),
    subst (HearsPart before after err_old err_new) (sym (lines-event event)) (hears-part before middle after err_old err_now err_new (lines_of sources front) (line sources event) so_far.err_count so_far.hears part),
  )
