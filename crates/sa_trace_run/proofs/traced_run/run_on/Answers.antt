use Rattle.std.proofs.Common.{◌∙◌, arith}
use Rattle.sa_trace.proofs.HandedOn.{rose-following}
use Rattle.sa_trace.specs.Writing.{sink}
use Rattle.sa_trace_run.proofs.Telling.{reported-more}
use Rattle.sa_trace_run.proofs.traced_run.run_on.Goals as goal

pub loop-end-preserved : goal.loop-end-preserved
loop-end-preserved g c =
    let out_old = sink (g.O.Sink.output c.args.out.now) (g.O.Sink.faults c.args.out.now) in
    let err_old = sink (g.E.Sink.output c.args.err.now) (g.E.Sink.faults c.args.err.now) in
    record {
      halt = c.stretch-answer.ensures.goes c.in-Spent.is;
      steps = c.stretch-answer.ensures.within;
      within = omega arith;
      source_count = omega (arith, c.loop-end.invariant.source_count, c.stretch-answer.ensures.source);
      sink_count = omega (arith, c.loop-end.invariant.sink_count, c.stretch-answer.ensures.sink);
      on = λ b under. (c.stretch-answer.ensures.made b c.args.fuel out_old err_old (omega arith) (c.loop-end.invariant.on b under)).goes c.in-Spent.is;
    }

pub returns-then-end-fuel-clause-reported : goal.returns-then-end-fuel-clause-reported
returns-then-end-fuel-clause-reported g c =
    reported-more c.stretch-answer.result _ _ _ _
    (rose-following (g.I.Source.faults c.args.input.now) (g.I.Source.faults c.loop-end.input) (g.I.Source.faults c.stretch-answer.new.input) c.loop-end.invariant.source_count)
    (rose-following (g.O.Sink.faults c.args.out.now) (g.O.Sink.faults c.loop-end.out) (g.O.Sink.faults c.stretch-answer.new.out) c.loop-end.invariant.sink_count)
    c.stretch-answer.ensures.reported

pub returns-in_default-clause-reported : goal.returns-in_default-clause-reported
returns-in_default-clause-reported g c =
    reported-more c.stretch-answer.result _ _ _ _
    (rose-following (g.I.Source.faults c.args.input.now) (g.I.Source.faults c.loop-end.input) (g.I.Source.faults c.stretch-answer.new.input) c.loop-end.invariant.source_count)
    (rose-following (g.O.Sink.faults c.args.out.now) (g.O.Sink.faults c.loop-end.out) (g.O.Sink.faults c.stretch-answer.new.out) c.loop-end.invariant.sink_count)
    c.stretch-answer.ensures.reported

pub returns-then-end-fuel-clause-ran : goal.returns-then-end-fuel-clause-ran
returns-then-end-fuel-clause-ran g c = λ b under.
    let out_old = sink (g.O.Sink.output c.args.out.now) (g.O.Sink.faults c.args.out.now) in
    let err_old = sink (g.E.Sink.output c.args.err.now) (g.E.Sink.faults c.args.err.now) in
    let last = c.stretch-answer.ensures.made b c.args.fuel out_old err_old (omega (arith, c.if-end-fuel.true)) (c.loop-end.invariant.on b under) in
    (last.put, last.whole (λ spent. c.stretch-answer.ensures.spent spent ∙ c.if-end-fuel.true), last.reported)

pub returns-in_default-clause-ran : goal.returns-in_default-clause-ran
returns-in_default-clause-ran g c = λ b under.
    let out_old = sink (g.O.Sink.output c.args.out.now) (g.O.Sink.faults c.args.out.now) in
    let err_old = sink (g.E.Sink.output c.args.err.now) (g.E.Sink.faults c.args.err.now) in
    let last = c.stretch-answer.ensures.made b c.args.fuel out_old err_old (omega arith) (c.loop-end.invariant.on b under) in
    (last.put, last.whole (λ spent. absurd (c.in_default.not-Spent spent)), last.reported)
