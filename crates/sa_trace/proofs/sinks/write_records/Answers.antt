use Rattle.std.proofs.Common.{◌+◌, take, drop, subst, sym, arith}
use Rattle.std.proofs.lemmas.List.{take-append-drop}
use Rattle.std.proofs.lemmas.Result.{IfErr-at_err, on_err_weaker}
use Rattle.host_io.specs.Output.{Took, TookFront}
use Rattle.sa_trace.specs.declared.trace_record.TraceRecord.TheVariants as frame
use Rattle.sa_trace.specs.TraceRecords.{ArePlaced}
use Rattle.sa_trace.proofs.HandedOn.{event-part, heard-part, next-frame, none-sent, on-err, part-sent, placed-following, so-far-byte, so-far-event}
use Rattle.sa_trace.proofs.sinks.write_records.Goals as goal
use Rattle.sa_trace.proofs.sinks.write_records.Goals.{in-Byte+in_ok-hold-in-Byte, in-Event+in_ok-put-in-Event+in_ok-tell-in-Event}

pub returns-in_err-hold-in-Byte-clause-part : goal.returns-in_err-hold-in-Byte-clause-part
returns-in_err-hold-in-Byte-clause-part g c =
    let i = c.loop-frame.frame-index in
    on-err c.from_residual.result (record {
      reported = take i c.args.frames.now;
      more = drop i c.args.frames.now;
      split = sym (take-append-drop i c.args.frames.now);
      out = none-sent c.loop-frame.invariant;
      err = heard-part c.loop-frame.invariant;
    })

pub returns-in_err-hold-in-Byte-clause-lines : goal.returns-in_err-hold-in-Byte-clause-lines
returns-in_err-hold-in-Byte-clause-lines g c = λ failed.
    let i = c.loop-frame.frame-index in
    record {
      reported = take i c.args.frames.now;
      more = drop i c.args.frames.now;
      split = sym (take-append-drop i c.args.frames.now);
      out = none-sent c.loop-frame.invariant;
      err = c.loop-frame.invariant.hears;
    }

pub returns-in_err-put-in-Event-clause-lines : goal.returns-in_err-put-in-Event-clause-lines
returns-in_err-put-in-Event-clause-lines g c = λ failed.
    let i = c.loop-frame.frame-index in
    record {
      reported = take i c.args.frames.now;
      more = drop i c.args.frames.now;
      split = sym (take-append-drop i c.args.frames.now);
      out = part-sent c.loop-frame.invariant _ (subst (TookFront _ _) c.as_slice.ensures.value c.in_err-put-in-Event.ensures.outage);
      err = c.loop-frame.invariant.hears;
    }

pub returns-clause-lines : goal.returns-clause-lines
returns-clause-lines g c = λ failed.
    let i = c.loop-frame.frame-index in
    let front = IfErr-at_err _ failed c.put-2.ensures.outage in
    record {
      reported = take i c.args.frames.now;
      more = drop i c.args.frames.now;
      split = sym (take-append-drop i c.args.frames.now);
      out = part-sent c.loop-frame.invariant _ (subst (TookFront _ _) c.as_slice-2.ensures.value front);
      err = c.loop-frame.invariant.hears;
    }

pub returns-in_err-put-in-Event-clause-part : goal.returns-in_err-put-in-Event-clause-part
returns-in_err-put-in-Event-clause-part g c =
    let i = c.loop-frame.frame-index in
    on-err c.from_residual-in_err-put-in-Event.result (record {
      reported = take i c.args.frames.now;
      more = drop i c.args.frames.now;
      split = sym (take-append-drop i c.args.frames.now);
      out = part-sent c.loop-frame.invariant _ (subst (TookFront _ _) c.as_slice.ensures.value c.in_err-put-in-Event.ensures.outage);
      err = heard-part c.loop-frame.invariant;
    })

pub tell-requires : goal.tell-requires
tell-requires g c =
    let i = c.loop-frame.frame-index in
    let next = next-frame c.args.frames.now i _ (frame.Event c.in-Event.event) (omega arith) c.in-Event.is in
    record {
      placed = placed-following c.args.sources.now (take i c.args.frames.now) (drop (i + 1) c.args.frames.now) c.in-Event.event
          (subst (ArePlaced c.args.sources.now) next.0 c.requires.placed);
    }

pub returns-in_err-tell-in-Event-clause-part : goal.returns-in_err-tell-in-Event-clause-part
returns-in_err-tell-in-Event-clause-part g c =
    let i = c.loop-frame.frame-index in
    let next = next-frame c.args.frames.now i _ (frame.Event c.in-Event.event) (omega arith) c.in-Event.is in
    let part = event-part c.loop-frame.invariant c.in-Event.event _ _ _ (subst (Took _ _) c.as_slice.ensures.value c.in_ok-put-in-Event.ensures.ok)
    c.in_err-tell-in-Event.ensures.part
    in
    on-err c.from_residual-in_err-tell-in-Event.result (record {
      reported = take (i + 1) c.args.frames.now;
      more = drop (i + 1) c.args.frames.now;
      split = sym (take-append-drop (i + 1) c.args.frames.now);
      out = rw next.1 part.0;
      err = rw next.1 part.1;
    })

pub loop-frame-preserved : goal.loop-frame-preserved
loop-frame-preserved g c = elim c.match-frame.branch [
  | in-Byte+in_ok-hold-in-Byte w ↦
      let next = next-frame c.args.frames.now c.loop-frame.frame-index _ (frame.Byte w.in-Byte.byte) (omega arith) w.in-Byte.is in
      rw (w.listening-is, w.out-is, w.err-is, w.held-is, next.1)
      (so-far-byte c.loop-frame.invariant w.in-Byte.byte _ w.in_ok-hold-in-Byte.ensures.ok)
  | in-Event+in_ok-put-in-Event+in_ok-tell-in-Event w ↦
      let next = next-frame c.args.frames.now c.loop-frame.frame-index _ (frame.Event w.in-Event.event) (omega arith) w.in-Event.is in
      rw (w.listening-is, w.out-is, w.err-is, w.held-is, next.1, w.clear.ensures.items)
      (so-far-event c.loop-frame.invariant w.in-Event.event _ _ _ (subst (Took _ _) w.as_slice.ensures.value w.in_ok-put-in-Event.ensures.ok)
      w.in_ok-put-in-Event.ensures.count w.in_ok-tell-in-Event.ensures.ok w.in_ok-tell-in-Event.ensures.count)
]

pub returns-clause-part : goal.returns-clause-part
returns-clause-part g c =
    let i = c.loop-frame.frame-index in
    on_err_weaker c.put-2.result (λ front. record {
      reported = take i c.args.frames.now;
      more = drop i c.args.frames.now;
      split = sym (take-append-drop i c.args.frames.now);
      out = part-sent c.loop-frame.invariant _ (subst (TookFront _ _) c.as_slice-2.ensures.value front);
      err = heard-part c.loop-frame.invariant;
    }) c.put-2.ensures.outage
