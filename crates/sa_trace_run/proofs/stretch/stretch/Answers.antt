use Rattle.std.proofs.Common.{◌++◌, ℕ, List, ap, subst}
use Rattle.std.specs.Prelude.{Err}
use Rattle.sa_trace.proofs.HandedOn.{rose-following}
use Rattle.sa_trace.specs.declared.sinks.ErrStatus.TheVariants as listening
use Rattle.sa_trace.specs.Writing.{Hears, HearsPart, Sink, sink}
use Rattle.sa_trace_run.proofs.Telling.{is-outage, outage-runs, stretch-cut, stretch-in-fault, stretch-reported-all, reported-cut, reported-more}
use Rattle.sa_trace_run.proofs.Stretches.{outage-other}
use Rattle.sa_trace_run.specs.Traced.{FrontIsWritten, SoFar, sinks}
use Rattle.sa_trace_run.proofs.stretch.stretch.Goals as goal

pub returns-in-Ok-clause-reported : goal.returns-in-Ok-clause-reported
returns-in-Ok-clause-reported g c = reported-more c.put_until-answer.result _ ⊥ _ _ (λ failed. failed) (λ none. absurd none) c.put_until-answer.ensures.reported

pub returns-in-Ok-clause-made : goal.returns-in-Ok-clause-made
returns-in-Ok-clause-made g c = λ b fuel out_old err_old most under.
    let out_new = sink (g.O.Sink.output c.tell-reported.new.out) (g.O.Sink.faults c.tell-reported.new.out) in
    let err_new = sink (g.E.Sink.output c.tell-reported.new.err) (g.E.Sink.faults c.tell-reported.new.err) in
    let s = sinks out_old out_new err_old err_new c.tell-reported.new.listening in
    stretch-reported-all (c.put_until-answer.ensures.came b fuel under.put most under.goes) c.tell-reported.new.parting s
    (subst (λ (bytes : List ℕ). SoFar c.args.positions.now c.args.sources.now (under.put ++ bytes) c.tell-reported.new.parting s) c.taken.ensures
    (c.in-Ok.ensures.ok under.put out_old err_old under.so_far))

pub returns-clause-reported : goal.returns-clause-reported
returns-clause-reported g c =
    reported-cut c.answer_of_outage.result c.in-Err.outage _ _ c.answer_of_outage.ensures.failed c.answer_of_outage.ensures.short
    (λ failed. c.in-Err.ensures.failed (ap Err failed))

pub returns-clause-runs : goal.returns-clause-runs
returns-clause-runs g c =
    outage-runs c.answer_of_outage.result (is-outage c.answer_of_outage.result c.in-Err.outage c.answer_of_outage.ensures.failed c.answer_of_outage.ensures.short)

pub returns-clause-spent : goal.returns-clause-spent
returns-clause-spent g c = λ spent.
    absurd (outage-other c.answer_of_outage.result (is-outage c.answer_of_outage.result c.in-Err.outage c.answer_of_outage.ensures.failed c.answer_of_outage.ensures.short) spent)

pub returns-clause-goes : goal.returns-clause-goes
returns-clause-goes g c = λ spent.
    absurd (outage-other c.answer_of_outage.result (is-outage c.answer_of_outage.result c.in-Err.outage c.answer_of_outage.ensures.failed c.answer_of_outage.ensures.short) spent)

pub returns-clause-made : goal.returns-clause-made
returns-clause-made g c = λ b fuel out_old err_old most under.
    let out_now = sink (g.O.Sink.output c.args.out.now) (g.O.Sink.faults c.args.out.now) in
    let out_new = sink (g.O.Sink.output c.tell-reported.new.out) (g.O.Sink.faults c.tell-reported.new.out) in
    let err_new = sink (g.E.Sink.output c.tell-reported.new.err) (g.E.Sink.faults c.tell-reported.new.err) in
    let s = sinks out_old out_new err_old err_new c.tell-reported.new.listening in
    stretch-cut (c.put_until-answer.ensures.came b fuel under.put most under.goes) c.tell-reported.new.parting s c.answer_of_outage.result c.in-Err.outage
    c.in_default.not-InFault c.answer_of_outage.ensures.failed c.answer_of_outage.ensures.short
    (λ failed. (
      rose-following out_old.faults out_now.faults out_new.faults under.so_far.out_count (c.in-Err.ensures.failed (ap Err failed)),
      subst (λ (bytes : List ℕ). FrontIsWritten c.args.positions.now c.args.sources.now (under.put ++ bytes) s (Hears listening.Yes c.tell-reported.new.listening err_old err_new)) c.taken.ensures
          (c.in-Err.ensures.lines (ap Err failed) under.put out_old err_old under.so_far),
    ))
    (subst (λ (bytes : List ℕ). FrontIsWritten c.args.positions.now c.args.sources.now (under.put ++ bytes) s (HearsPart listening.Yes c.tell-reported.new.listening err_old err_new)) c.taken.ensures
    (c.in-Err.ensures.part under.put out_old err_old under.so_far))

pub returns-in-InFault-clause-made : goal.returns-in-InFault-clause-made
returns-in-InFault-clause-made g c = λ b fuel out_old err_old most under.
    let out_now = sink (g.O.Sink.output c.args.out.now) (g.O.Sink.faults c.args.out.now) in
    let out_new = sink (g.O.Sink.output c.tell-reported.new.out) (g.O.Sink.faults c.tell-reported.new.out) in
    let err_new = sink (g.E.Sink.output c.tell-reported.new.err) (g.E.Sink.faults c.tell-reported.new.err) in
    let s = sinks out_old out_new err_old err_new c.tell-reported.new.listening in
    stretch-in-fault (c.put_until-answer.ensures.came b fuel under.put most under.goes) c.tell-reported.new.parting out_old out_new err_old err_new
    c.tell-reported.new.listening c.listening_behind-running.result c.in-Err.outage c.in-InFault.is
    c.listening_behind-running.ensures.failed c.listening_behind-running.ensures.short
    (λ failed. (
      rose-following out_old.faults out_now.faults out_new.faults under.so_far.out_count (c.in-Err.ensures.failed (ap Err failed)),
      subst (λ (bytes : List ℕ). FrontIsWritten c.args.positions.now c.args.sources.now (under.put ++ bytes) s (Hears listening.Yes c.tell-reported.new.listening err_old err_new)) c.taken.ensures
          (c.in-Err.ensures.lines (ap Err failed) under.put out_old err_old under.so_far),
    ))
    (subst (λ (bytes : List ℕ). FrontIsWritten c.args.positions.now c.args.sources.now (under.put ++ bytes) s (HearsPart listening.Yes c.tell-reported.new.listening err_old err_new)) c.taken.ensures
    (c.in-Err.ensures.part under.put out_old err_old under.so_far))
