use Rattle.std.proofs.Common.{None, ◌∙◌, ℕ, [], Some, refl, subst, sym}
use Rattle.sa_trace.specs.Writing.{sink}
use Rattle.wa_flatten.specs.Codes.{layout_of}
use Rattle.sa_trace.specs.declared.sinks.ErrStatus.TheVariants as listening
use Rattle.wa_exec.specs.declared.halt.StartFault.TheVariants as start
use Rattle.wa_exec.specs.Linking.{flat_of}
use Rattle.wa_run.specs.Answers.{IsBeforeRun}
use Rattle.wa_run.specs.Runs.{HasRunModule, streams}
use Rattle.wa_run.proofs.Runs.{starts}
use Rattle.sa_trace_run.specs.Stretches.{Beginning}
use Rattle.sa_trace_run.specs.Traced.{sinks}
use Rattle.sa_trace_run.proofs.Telling.{reported-grew, under-way, unrun-reported}
use Rattle.sa_trace_run.proofs.traced_run.run_traced.Goals as goal

pub returns-in_default-clause-ran : goal.returns-in_default-clause-ran
returns-in_default-clause-ran g c =
    unrun-reported c.args.positions.now c.args.sources.now c.args.«module».now c.args.fuel c.unrun.result.run start.NoMemory
    (g.I.Source.input c.args.input.now) (sink (g.O.Sink.output c.args.out.now) (g.O.Sink.faults c.args.out.now))
    (sink (g.E.Sink.output c.args.err.now) (g.E.Sink.faults c.args.err.now)) c.unrun.result.listening c.unrun.ensures.answer c.unrun.ensures.listening

pub returns-in-Err-clause-ran : goal.returns-in-Err-clause-ran
returns-in-Err-clause-ran g c =
    unrun-reported c.args.positions.now c.args.sources.now c.args.«module».now c.args.fuel c.unrun-in-Err.result.run c.in-Err.fault
    (g.I.Source.input c.args.input.now) (sink (g.O.Sink.output c.args.out.now) (g.O.Sink.faults c.args.out.now))
    (sink (g.E.Sink.output c.args.err.now) (g.E.Sink.faults c.args.err.now)) c.unrun-in-Err.result.listening
    (c.unrun-in-Err.ensures.answer ∙ c.answer_of_start.ensures) c.unrun-in-Err.ensures.listening

pub returns-in-Err-clause-starts : goal.returns-in-Err-clause-starts
returns-in-Err-clause-starts g c = λ linked fit before.
    starts c.args.«module».now c.in-Err.fault c.in-Err.ensures.refused linked fit
    (subst IsBeforeRun (c.unrun-in-Err.ensures.answer ∙ c.answer_of_start.ensures) before)

pub returns-clause-ran : goal.returns-clause-ran
returns-clause-ran g c =
    let machine = c.in-Ok-new.machine in
    let input = g.I.Source in
    let out = sink (g.O.Sink.output c.args.out.now) (g.O.Sink.faults c.args.out.now) in
    let err = sink (g.E.Sink.output c.args.err.now) (g.E.Sink.faults c.args.err.now) in
    let b : Beginning = record {
      program = c.args.«module».now;
      valid = c.requires.valid;
      linked = c.in-Ok-new.ensures.linked;
      row = layout_of machine.linked.code;
      flat = flat_of machine.state;
      begins = c.in-Ok-new.ensures.begins;
      input = input.input c.args.input.now;
      ended = input.ended c.args.input.now;
    }
    in
    let all = c.run_on-answer.ensures.ran b
    (under-way c.args.positions.now c.args.sources.now b machine c.in-Ok.host c.new-3.result out err listening.Yes c.in-Ok-new.ensures.first.0
    c.in-Ok.ensures c.in-Ok-new.ensures.runs refl refl c.new-3.ensures refl)
    in (
      all.0,
      subst (λ (n : ℕ). HasRunModule c.args.«module».now c.args.fuel (record { answer = c.run_on-answer.result; steps = n; func = None })
          (streams (input.input c.args.input.now) (Some [])) (streams (input.input c.run_on-answer.new.input) (Some all.0))) (sym c.steps.ensures) all.1,
      all.2,
    )

pub returns-clause-output : goal.returns-clause-output
returns-clause-output g c =
    let all = returns-clause-ran g c in
    reported-grew c.args.positions.now c.args.sources.now all.0
    (sinks (sink (g.O.Sink.output c.args.out.now) (g.O.Sink.faults c.args.out.now))
    (sink (g.O.Sink.output c.run_on-answer.new.out) (g.O.Sink.faults c.run_on-answer.new.out))
    (sink (g.E.Sink.output c.args.err.now) (g.E.Sink.faults c.args.err.now))
    (sink (g.E.Sink.output c.run_on-answer.new.err) (g.E.Sink.faults c.run_on-answer.new.err)) c.run_on-answer.new.running.listening)
    c.run_on-answer.result all.2
