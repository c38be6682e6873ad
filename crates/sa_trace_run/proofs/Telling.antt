-- Records that are written after others.
use Rattle.std.proofs.Common.{◌≡◌, ◌≢◌, ◌⊎◌, inl, inr, ◌≤◌, ◌+◌, ℕ, Bool, false, Option, List, [], ◌∷◌, ◌++◌, refl, sym, ap, subst, ◌∙◌, arith, append_assoc, append-nil, Some, None}
use Rattle.host_io.specs.Faults.{Rose}
use Rattle.host_io.specs.Output.{Grew, Took, TookFront}
use Rattle.host_io.proofs.Growth.{Grew-front, Grew-took}
use Rattle.host_io.specs.declared.store.Outage.{Outage}
use Rattle.host_io.specs.declared.store.Outage.TheVariants as outage
use Rattle.sa_ast.specs.declared.pos.Pos.{Pos}
use Rattle.sa_ast.specs.declared.pos.Sources.{Sources}
use Rattle.sa_trace.specs.declared.trace_record.TraceRecord.{TraceRecord}
use Rattle.sa_trace.specs.declared.sinks.ErrStatus.{ErrStatus}
use Rattle.sa_trace.specs.declared.sinks.ErrStatus.TheVariants as listening
use Rattle.sa_trace.specs.TraceRecords.{AreTraceRecords, BeginsNone, output_of}
use Rattle.sa_trace.specs.Writing.{WritesRecords, WritesFront, Hears, HearsPart, Sink, lines_of}
use Rattle.sa_trace.specs.Pieces.{HasRead, Keeps, ParserState}
use Rattle.sa_trace.proofs.Fronts.{none-nil}
use Rattle.sa_trace.proofs.HandedOn.{front-following, front-whole, hears-more, hears-none, hears-part, hears-whole, lines-more, output-more, took-more, took-none}
use Rattle.wa_syntax.specs.declared.module.Module.{Module}
use Rattle.wa_flatten.specs.Codes.{layout_of}
use Rattle.wa_exec.specs.declared.halt.StartFault.{StartFault}
use Rattle.wa_exec.specs.Linking.{flat_of}
use Rattle.wa_exec.specs.Machines.{Flat}
use Rattle.wa_exec.specs.Interaction.{Makes, sides}
use Rattle.wa_exec.specs.Progress.{Progress, Runs}
use Rattle.wa_exec.proofs.Outside.{Makes-none}
use Rattle.wa_run.specs.Answers.{IsBeforeRun, IsFaultReported, answer_of_start}
use Rattle.wa_run.specs.declared.answer.Answer.{Answer}
use Rattle.wa_run.specs.declared.answer.Answer.TheVariants as answer
use Rattle.wa_run.specs.declared.module_run.RunResult.{RunResult}
use Rattle.wa_run.specs.Runs.{HasRunModule, IsAnswered, streams}
use Rattle.wa_run.proofs.Runs.{not-started, nothing-passed}
use Rattle.host_io.specs.Input as source
use Rattle.sa_trace_run.specs.Stretches.{Beginning, CameTo, HasRunTo, IsStretch, IsUnderWay}
use Rattle.sa_trace_run.specs.Traced.{AreRecordsWritten, AreReported, FrontIsWritten, Sinks, SoFar, sinks}
use Rattle.sa_trace_run.proofs.Stretches.{fault-other, outage-other}

module _ (positions : List Pos) (sources : Sources) where
  -- the first of the records are a prefix of the bytes
  frames-front : (bytes : List ℕ) (reported more : List TraceRecord) → AreTraceRecords positions sources bytes (reported ++ more) → (front rest : List ℕ) × (bytes ≡ front ++ rest) × AreTraceRecords positions sources front reported
  frames-front bytes [] more are = ([], bytes, refl, refl)
  frames-front bytes (one ∷ reported) more (first, rest, split, is, others) =
      let inner = frames-front rest reported more others in (
        first ++ inner.0,
        inner.1,
        split ∙ ap (λ (xs : List ℕ). first ++ xs) inner.2 ∙ sym (append_assoc first inner.0 inner.1),
        (first, inner.0, refl, is, inner.3),
      )

  keeps-none : (left : ParserState) (rest : List ℕ) → Keeps positions sources left rest → BeginsNone positions sources rest
  keeps-none left rest (inl (on, begun, none)) = none
  keeps-none left rest (inr (wrong, wrongs)) = subst (BeginsNone positions sources) (append-nil rest) (wrongs [])

  pub all-delivered : (bytes : List ℕ) (left : ParserState) (s : Sinks) → SoFar positions sources bytes left s → AreRecordsWritten positions sources bytes s
  all-delivered bytes left s so_far = record {
    frames = so_far.frames;
    framed = record {
      front = so_far.read.front;
      rest = so_far.read.rest;
      split = so_far.read.split;
      frames_are = so_far.read.frames_are;
      ends = keeps-none left so_far.read.rest so_far.read.keeps;
    };
    hands = so_far.hands;
  }

  -- before the first byte
  pub so-far-none : (out err : Sink) → SoFar positions sources [] (record { begun = []; wrong = false }) (sinks out out err err listening.Yes)
  so-far-none out err = record {
    frames = [];
    read = record { front = []; rest = []; split = refl; frames_are = refl; keeps = inl (refl, refl, none-nil positions sources) };
    hands = record { out = took-none out.taken; err = hears-none listening.Yes err };
    out_count = omega arith;
    err_count = omega arith;
  }

module _ {positions : List Pos} {sources : Sources} {put : List ℕ} {left : ParserState} {out_old out_now err_old err_now : Sink} {middle : ErrStatus} (so_far : SoFar positions sources put left (sinks out_old out_now err_old err_now middle)) where
  all-lines : (more : List TraceRecord) → lines_of sources (so_far.frames ++ more) ≡ lines_of sources so_far.frames ++ lines_of sources more
  all-lines more = lines-more sources so_far.frames more

  pub so-far-more : (bytes : List ℕ) (frames : List TraceRecord) (following : ParserState) (out_new err_new : Sink) (after : ErrStatus) → HasRead positions sources (put ++ bytes) (so_far.frames ++ frames) following → WritesRecords sources frames out_now out_new middle after err_now err_new → out_now.faults ≤ out_new.faults → err_now.faults ≤ err_new.faults → SoFar positions sources (put ++ bytes) following (sinks out_old out_new err_old err_new after)
  so-far-more bytes frames following out_new err_new after read hands out_more err_more = record {
    frames = so_far.frames ++ frames;
    read = read;
    hands = record {
      out = subst (Took out_old.taken out_new.taken) (sym (output-more so_far.frames frames)) (took-more out_old.taken out_now.taken out_new.taken (output_of so_far.frames) (output_of frames) so_far.hands.out hands.out);
      err = subst (Hears listening.Yes after err_old err_new) (sym (all-lines frames)) (hears-more listening.Yes middle after err_old err_now err_new (lines_of sources so_far.frames) (lines_of sources frames) so_far.err_count so_far.hands.err hands.err);
    };
    out_count = omega (arith, so_far.out_count, out_more);
    err_count = omega (arith, so_far.err_count, err_more);
  }

  -- a prefix of the records of these bytes
  front-of : (bytes : List ℕ) (frames : List TraceRecord) (following : ParserState) (out_new err_new : Sink) (after : ErrStatus) (Heard OfAll : (lines : List ℕ) → Type 0) → HasRead positions sources (put ++ bytes) (so_far.frames ++ frames) following → WritesFront sources frames out_now out_new Heard → ((lines : List ℕ) → Heard lines → OfAll (lines_of sources so_far.frames ++ lines)) → FrontIsWritten positions sources (put ++ bytes) (sinks out_old out_new err_old err_new after) OfAll
  front-of bytes frames following out_new err_new after Heard OfAll read hands hears =
      let split = ap (λ (xs : List TraceRecord). so_far.frames ++ xs) hands.split ∙ sym (append_assoc so_far.frames hands.reported hands.more) in
      let part = frames-front positions sources read.front (so_far.frames ++ hands.reported) hands.more (subst (AreTraceRecords positions sources read.front) split read.frames_are) in
      record {
        front = part.0;
        rest = part.1 ++ read.rest;
        split = read.split ∙ ap (λ (xs : List ℕ). xs ++ read.rest) part.2 ∙ append_assoc part.0 part.1 read.rest;
        reported = so_far.frames ++ hands.reported;
        are = part.3;
        out = subst (TookFront out_old.taken out_new.taken) (sym (output-more so_far.frames hands.reported)) (front-following out_old.taken out_now.taken out_new.taken (output_of so_far.frames) (output_of hands.reported) so_far.hands.out hands.out);
        err = subst OfAll (sym (all-lines hands.reported)) (hears (lines_of sources hands.reported) hands.err);
      }

  -- where out failed
  pub lines-front : (bytes : List ℕ) (frames : List TraceRecord) (following : ParserState) (out_new err_new : Sink) (after : ErrStatus) → HasRead positions sources (put ++ bytes) (so_far.frames ++ frames) following → WritesFront sources frames out_now out_new (Hears middle after err_now err_new) → FrontIsWritten positions sources (put ++ bytes) (sinks out_old out_new err_old err_new after) (Hears listening.Yes after err_old err_new)
  lines-front bytes frames following out_new err_new after read hands =
      front-of bytes frames following out_new err_new after (Hears middle after err_now err_new) (Hears listening.Yes after err_old err_new) read hands
      (λ lines heard. hears-more listening.Yes middle after err_old err_now err_new (lines_of sources so_far.frames) lines so_far.err_count so_far.hands.err heard)

  -- where memory ran out
  pub part-front : (bytes : List ℕ) (frames : List TraceRecord) (following : ParserState) (out_new err_new : Sink) (after : ErrStatus) → HasRead positions sources (put ++ bytes) (so_far.frames ++ frames) following → WritesFront sources frames out_now out_new (HearsPart middle after err_now err_new) → FrontIsWritten positions sources (put ++ bytes) (sinks out_old out_new err_old err_new after) (HearsPart listening.Yes after err_old err_new)
  part-front bytes frames following out_new err_new after read hands =
      front-of bytes frames following out_new err_new after (HearsPart middle after err_now err_new) (HearsPart listening.Yes after err_old err_new) read hands
      (λ lines heard. hears-part listening.Yes middle after err_old err_now err_new (lines_of sources so_far.frames) lines so_far.err_count so_far.hands.err heard)

  -- where it ran out before any record was found
  pub none-front : (bytes : List ℕ) → FrontIsWritten positions sources (put ++ bytes) (sinks out_old out_now err_old err_now middle) (HearsPart listening.Yes middle err_old err_now)
  none-front bytes = record {
    front = so_far.read.front;
    rest = so_far.read.rest ++ bytes;
    split = ap (λ (xs : List ℕ). xs ++ bytes) so_far.read.split ∙ append_assoc so_far.read.front so_far.read.rest bytes;
    reported = so_far.frames;
    are = so_far.read.frames_are;
    out = front-whole out_old.taken out_now.taken (output_of so_far.frames) so_far.hands.out;
    err = hears-whole listening.Yes middle err_old err_now (lines_of sources so_far.frames) so_far.hands.err;
  }

-- ---- what the answer of a stretch says of the sources and sinks

pub reported-more : (given : Answer) (input_failed out_failed input_fails out_fails : Type 0) → (input_failed → input_fails) → (out_failed → out_fails) → IsFaultReported given input_failed out_failed → IsFaultReported given input_fails out_fails
reported-more answer.Malformed input_failed out_failed input_fails out_fails more_input more_out reported = tt
reported-more (answer.Invalid func) input_failed out_failed input_fails out_fails more_input more_out reported = tt
reported-more (answer.Unlinked import) input_failed out_failed input_fails out_fails more_input more_out reported = tt
reported-more answer.Segment input_failed out_failed input_fails out_fails more_input more_out reported = tt
reported-more (answer.Ended value) input_failed out_failed input_fails out_fails more_input more_out reported = tt
reported-more (answer.Stopped code site) input_failed out_failed input_fails out_fails more_input more_out reported = tt
reported-more (answer.Trap kind) input_failed out_failed input_fails out_fails more_input more_out reported = tt
reported-more answer.TooDeep input_failed out_failed input_fails out_fails more_input more_out reported = tt
reported-more answer.Spent input_failed out_failed input_fails out_fails more_input more_out reported = tt
reported-more answer.InFault input_failed out_failed input_fails out_fails more_input more_out reported = more_input reported
reported-more answer.OutFault input_failed out_failed input_fails out_fails more_input more_out reported = more_out reported
reported-more answer.NoMemory input_failed out_failed input_fails out_fails more_input more_out reported = tt

-- the answer that an outage gives
pub reported-cut : (result : Answer) (what : Outage) (input_failed out_failed : Type 0) → (what ≡ outage.Failed → result ≡ answer.OutFault) → (what ≡ outage.NoMemory → result ≡ answer.NoMemory) → (what ≡ outage.Failed → out_failed) → IsFaultReported result input_failed out_failed
reported-cut result outage.Failed input_failed out_failed failed short out = subst (λ (a : Answer). IsFaultReported a input_failed out_failed) (sym (failed refl)) (out refl)
reported-cut result outage.NoMemory input_failed out_failed failed short out = subst (λ (a : Answer). IsFaultReported a input_failed out_failed) (sym (short refl)) tt

-- is one of these
pub is-outage : (result : Answer) (what : Outage) → (what ≡ outage.Failed → result ≡ answer.OutFault) → (what ≡ outage.NoMemory → result ≡ answer.NoMemory) → (result ≡ answer.OutFault) ⊎ (result ≡ answer.NoMemory)
is-outage result outage.Failed failed short = inl (failed refl)
is-outage result outage.NoMemory failed short = inr (short refl)

-- and comes in a run
pub outage-runs : (result : Answer) → (result ≡ answer.OutFault) ⊎ (result ≡ answer.NoMemory) → IsBeforeRun result → ⊥
outage-runs result (inl is) before = subst IsBeforeRun is before
outage-runs result (inr is) before = subst IsBeforeRun is before

-- ---- how a stretch ends

module _ {b : Beginning} {positions : List Pos} {sources : Sources} {fuel : ℕ} {given : Answer} {machine : Progress} {held : List ℕ} {input : Option source.Input} {ended : Bool} {put : List ℕ} (came : CameTo b fuel given machine held input ended put) where
  -- all was reported
  pub stretch-reported-all : (left : ParserState) (s : Sinks) → SoFar positions sources put left s → IsStretch b positions sources fuel given machine held left input ended s
  stretch-reported-all left s so_far = record {
    put = put;
    whole = came.whole;
    reported = inl (all-delivered positions sources put left s so_far);
    goes = λ spent. record { put = put; goes = came.goes spent; so_far = so_far };
  }

  -- an outage came
  pub stretch-cut : (left : ParserState) (s : Sinks) (result : Answer) (what : Outage) → given ≢ answer.InFault → (what ≡ outage.Failed → result ≡ answer.OutFault) → (what ≡ outage.NoMemory → result ≡ answer.NoMemory) → (what ≡ outage.Failed → Rose s.out_old.faults s.out_new.faults × FrontIsWritten positions sources put s (Hears listening.Yes s.listening s.err_old s.err_new)) → FrontIsWritten positions sources put s (HearsPart listening.Yes s.listening s.err_old s.err_new) → IsStretch b positions sources fuel result machine held left input ended s
  stretch-cut left s result outage.Failed not failed short lines part = record {
    put = put;
    whole = λ spent. came.cut not result (inl (failed refl));
    reported = inr (inl (inl (failed refl), (lines refl).0, (lines refl).1));
    goes = λ spent. absurd (outage-other result (inl (failed refl)) spent);
  }
  stretch-cut left s result outage.NoMemory not failed short lines part = record {
    put = put;
    whole = λ spent. came.cut not result (inr (short refl));
    reported = inr (inr (inl (short refl), part));
    goes = λ spent. absurd (outage-other result (inr (short refl)) spent);
  }

  -- an outage came after a fault of the input
  pub stretch-in-fault : (left : ParserState) (out_old out_new err_old err_new : Sink) (before after : ErrStatus) (what : Outage) → given ≡ answer.InFault → (what ≡ outage.Failed → after ≡ before) → (what ≡ outage.NoMemory → after ≡ listening.NoMemory) → (what ≡ outage.Failed → Rose out_old.faults out_new.faults × FrontIsWritten positions sources put (sinks out_old out_new err_old err_new before) (Hears listening.Yes before err_old err_new)) → FrontIsWritten positions sources put (sinks out_old out_new err_old err_new before) (HearsPart listening.Yes before err_old err_new) → IsStretch b positions sources fuel answer.InFault machine held left input ended (sinks out_old out_new err_old err_new after)
  stretch-in-fault left out_old out_new err_old err_new before after outage.Failed is failed short lines part = record {
    put = put;
    whole = λ spent. subst (λ (a : Answer). HasRunTo b fuel a machine.steps input put) is (came.whole (λ same. absurd (fault-other (sym is ∙ same))));
    reported = inr (inl (
      inr refl,
      (lines refl).0,
      subst (λ (l : ErrStatus). FrontIsWritten positions sources put (sinks out_old out_new err_old err_new l) (Hears listening.Yes l err_old err_new)) (sym (failed refl)) (lines refl).1,
    ));
    goes = λ spent. absurd (fault-other spent);
  }
  stretch-in-fault left out_old out_new err_old err_new before after outage.NoMemory is failed short lines part = record {
    put = put;
    whole = λ spent. subst (λ (a : Answer). HasRunTo b fuel a machine.steps input put) is (came.whole (λ same. absurd (fault-other (sym is ∙ same))));
    reported = inr (inr (
      inr (refl, short refl),
      record {
        front = part.front;
        rest = part.rest;
        split = part.split;
        reported = part.reported;
        are = part.are;
        out = part.out;
        err = (inr (inr (short refl)), part.err.1);
      },
    ));
    goes = λ spent. absurd (fault-other spent);
  }

-- ---- the whole run

module _ (positions : List Pos) (sources : Sources) where
  -- where nothing is run
  pub unrun-reported : (m : Module) (fuel : ℕ) (run : RunResult) (fault : StartFault) (input : Option source.Input) (out err : Sink) (now : ErrStatus) → run.answer ≡ answer_of_start fault → now ≡ listening.Yes → (framed : List ℕ) × HasRunModule m fuel run (streams input (Some [])) (streams input (Some framed)) × AreReported positions sources framed (sinks out out err err now) run.answer
  unrun-reported m fuel run fault input out err now is listens = (
    [],
    nothing-passed (streams input (Some [])) (streams input (Some [])) (λ answers delivered. IsAnswered m answers delivered fuel run.answer run.steps) refl refl
        (subst (λ (a : Answer). IsAnswered m [] [] fuel a run.steps) (sym is) (not-started m fuel run.steps fault)),
    subst (λ (l : ErrStatus). AreReported positions sources [] (sinks out out err err l) run.answer) (sym listens)
        (inl (all-delivered positions sources [] (record { begun = []; wrong = false }) (sinks out out err err listening.Yes) (so-far-none positions sources out err))),
  )

  -- what out has is what it had, and more after it
  pub reported-grew : (bytes : List ℕ) (s : Sinks) (given : Answer) → AreReported positions sources bytes s given → Grew s.out_old.taken s.out_new.taken
  reported-grew bytes s given (inl all) = Grew-took s.out_old.taken s.out_new.taken (output_of all.frames) all.hands.out
  reported-grew bytes s given (inr (inl (is, rose, front))) = Grew-front s.out_old.taken s.out_new.taken (output_of front.reported) front.out
  reported-grew bytes s given (inr (inr (is, front))) = Grew-front s.out_old.taken s.out_new.taken (output_of front.reported) front.out

  -- before the first step
  pub under-way : (b : Beginning) (machine : Progress) (held : List ℕ) (left : ParserState) (out err : Sink) (now : ErrStatus) → machine.steps ≡ 0 → held ≡ [] → Runs b.program machine → layout_of machine.linked.code ≡ b.row → flat_of machine.state ≡ b.flat → left ≡ record { begun = []; wrong = false } → now ≡ listening.Yes → IsUnderWay b positions sources machine held left b.input b.ended (sinks out out err err now)
  under-way b machine held left out err now first none runs row flat left_is listens = record {
    put = [];
    goes = record {
      makes = subst (λ (n : ℕ). Makes b.program b.row b.flat (flat_of machine.state) 0 n None (sides b.input b.ended (Some [])) (sides b.input b.ended (Some [])) [] []) (sym first)
          (subst (λ (f : Flat). Makes b.program b.row b.flat f 0 0 None (sides b.input b.ended (Some [])) (sides b.input b.ended (Some [])) [] []) (sym flat)
          (Makes-none b.program b.row b.flat [] 0 (sides b.input b.ended (Some []))));
      none = none;
      runs = runs;
      row_is = row;
    };
    so_far = subst (λ (l : ErrStatus). SoFar positions sources [] left (sinks out out err err l)) (sym listens)
        (subst (λ (l : ParserState). SoFar positions sources [] l (sinks out out err err listening.Yes)) (sym left_is) (so-far-none positions sources out err));
  }
