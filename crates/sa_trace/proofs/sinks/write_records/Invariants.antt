use Rattle.std.proofs.Common.{take}
use Rattle.sa_trace.specs.Writing.{sink}
use Rattle.sa_trace.proofs.HandedOn.{SoFar}
use Rattle.sa_trace.proofs.sinks.write_records.Given as goal

abbrev pub invariant-loop-frame : goal.invariant-loop-frame
invariant-loop-frame g l =
    let out = g.O.Sink in
    let err = g.E.Sink in
    SoFar l.sources (take l.frame-index l.frames) l.held.items (sink (out.output l.fn.out) (out.faults l.fn.out))
    (sink (out.output l.out) (out.faults l.out)) l.fn.listening l.listening (sink (err.output l.fn.err) (err.faults l.fn.err))
    (sink (err.output l.err) (err.faults l.err))
