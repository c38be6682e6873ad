use Rattle.std.proofs.Common.{List, subst}
use Rattle.std.proofs.lemmas.Result.{on_err_weaker, on_ok_weaker}
use Rattle.sa_trace.specs.declared.trace_record.TraceRecord.{TraceRecord}
use Rattle.sa_trace.specs.Writing.{WritesRecords, WritesFront, Hears, HearsPart, sink}
use Rattle.sa_trace_run.proofs.Telling.{lines-front, none-front, part-front, so-far-more}
use Rattle.sa_trace_run.proofs.stretch.tell.Goals as goal

pub returns-in-Ok-clause-ok : goal.returns-in-Ok-clause-ok
returns-in-Ok-clause-ok g c =
    let out = g.O.Sink in
    let err = g.E.Sink in
    let out_now = sink (out.output c.args.out.now) (out.faults c.args.out.now) in
    let out_new = sink (out.output c.write_records.new.out) (out.faults c.write_records.new.out) in
    let err_now = sink (err.output c.args.err.now) (err.faults c.args.err.now) in
    let err_new = sink (err.output c.write_records.new.err) (err.faults c.write_records.new.err) in
    on_ok_weaker c.write_records.result (λ hands put out_old err_old so_far.
    so-far-more so_far c.args.bytes.now c.in-Ok.frames.items c.part.new.self out_new err_new c.write_records.new.listening
    (c.in-Ok.ensures.read put so_far.frames so_far.read)
    (subst (λ (frames : List TraceRecord). WritesRecords c.args.sources.now frames out_now out_new c.args.listening.now c.write_records.new.listening err_now err_new) c.as_slice.ensures.value hands)
    c.write_records.ensures.out c.write_records.ensures.err) c.write_records.ensures.ok

pub returns-in-Ok-clause-part : goal.returns-in-Ok-clause-part
returns-in-Ok-clause-part g c =
    let out = g.O.Sink in
    let err = g.E.Sink in
    let out_now = sink (out.output c.args.out.now) (out.faults c.args.out.now) in
    let out_new = sink (out.output c.write_records.new.out) (out.faults c.write_records.new.out) in
    let err_now = sink (err.output c.args.err.now) (err.faults c.args.err.now) in
    let err_new = sink (err.output c.write_records.new.err) (err.faults c.write_records.new.err) in
    on_err_weaker c.write_records.result (λ hands put out_old err_old so_far.
    part-front so_far c.args.bytes.now c.in-Ok.frames.items c.part.new.self out_new err_new c.write_records.new.listening
    (c.in-Ok.ensures.read put so_far.frames so_far.read)
    (subst (λ (frames : List TraceRecord). WritesFront c.args.sources.now frames out_now out_new (HearsPart c.args.listening.now c.write_records.new.listening err_now err_new)) c.as_slice.ensures.value hands)) c.write_records.ensures.part

pub returns-in-Ok-clause-lines : goal.returns-in-Ok-clause-lines
returns-in-Ok-clause-lines g c = λ failed put out_old err_old so_far.
    let out = g.O.Sink in
    let err = g.E.Sink in
    let out_now = sink (out.output c.args.out.now) (out.faults c.args.out.now) in
    let out_new = sink (out.output c.write_records.new.out) (out.faults c.write_records.new.out) in
    let err_now = sink (err.output c.args.err.now) (err.faults c.args.err.now) in
    let err_new = sink (err.output c.write_records.new.err) (err.faults c.write_records.new.err) in
    lines-front so_far c.args.bytes.now c.in-Ok.frames.items c.part.new.self out_new err_new c.write_records.new.listening
    (c.in-Ok.ensures.read put so_far.frames so_far.read)
    (subst (λ (frames : List TraceRecord). WritesFront c.args.sources.now frames out_now out_new (Hears c.args.listening.now c.write_records.new.listening err_now err_new)) c.as_slice.ensures.value (c.write_records.ensures.lines failed))

pub returns-in-Err-clause-part : goal.returns-in-Err-clause-part
returns-in-Err-clause-part g c = λ put out_old err_old so_far. none-front so_far c.args.bytes.now
