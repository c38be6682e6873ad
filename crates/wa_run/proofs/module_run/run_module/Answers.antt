use Rattle.std.proofs.Common.{None, refl, sym, subst, []}
use Rattle.wa_exec.specs.declared.halt.StartFault.TheVariants as start
use Rattle.wa_run.specs.declared.answer.Answer.{Answer}
use Rattle.wa_run.specs.declared.answer.Answer.TheVariants as answer
use Rattle.wa_run.specs.Answers.{IsBeforeRun}
use Rattle.wa_run.specs.Runs.{IsAnswered, streams}
use Rattle.wa_run.proofs.Runs.{not-started, nothing-passed, run-reported, starts}
use Rattle.wa_run.proofs.module_run.run_module.Goals as goal

pub returns-in-Err-clause-ran : goal.returns-in-Err-clause-ran
returns-in-Err-clause-ran g c =
    let here = streams (g.I.Source.input c.args.input.now) (g.O.Sink.output c.args.out.now) in
    nothing-passed here here (λ answers delivered. IsAnswered c.args.valid.now answers delivered c.args.fuel answer.NoMemory 0) refl refl (not-started c.args.valid.now c.args.fuel 0 start.NoMemory)

pub returns-in-Err-clause-whole : goal.returns-in-Err-clause-whole
returns-in-Err-clause-whole g c =
    let here = streams (g.I.Source.input c.args.input.now) (g.O.Sink.output c.args.out.now) in
    run-reported c.args.valid.now c.args.fuel (record { answer = answer.NoMemory; steps = 0; func = None }) here here (returns-in-Err-clause-ran g c)

pub returns-in-Ok-new-clause-ran : goal.returns-in-Ok-new-clause-ran
returns-in-Ok-new-clause-ran g c =
    c.run_machine.ensures.ran c.args.valid.now c.requires.valid c.in-Ok-new.ensures.linked c.in-Ok-new.ensures.runs c.in-Ok-new.ensures.begins c.in-Ok.ensures

pub returns-in-Ok-new-clause-whole : goal.returns-in-Ok-new-clause-whole
returns-in-Ok-new-clause-whole g c =
    let here = streams (g.I.Source.input c.args.input.now) (g.O.Sink.output c.args.out.now) in
    let there = streams (g.I.Source.input c.run_machine.new.input) (g.O.Sink.output c.run_machine.new.out) in
    run-reported c.args.valid.now c.args.fuel c.run_machine.result here there (returns-in-Ok-new-clause-ran g c)

pub returns-clause-ran : goal.returns-clause-ran
returns-clause-ran g c =
    let here = streams (g.I.Source.input c.args.input.now) (g.O.Sink.output c.args.out.now) in
    nothing-passed here here (λ answers delivered. IsAnswered c.args.valid.now answers delivered c.args.fuel c.answer_of_start.result 0) refl refl
    (subst (λ (a : Answer). IsAnswered c.args.valid.now [] [] c.args.fuel a 0) (sym c.answer_of_start.ensures) (not-started c.args.valid.now c.args.fuel 0 c.in-Err-new.fault))

pub returns-clause-whole : goal.returns-clause-whole
returns-clause-whole g c =
    let here = streams (g.I.Source.input c.args.input.now) (g.O.Sink.output c.args.out.now) in
    run-reported c.args.valid.now c.args.fuel (record { answer = c.answer_of_start.result; steps = 0; func = None }) here here (returns-clause-ran g c)

pub returns-clause-starts : goal.returns-clause-starts
returns-clause-starts g c = λ linked fit before.
    starts c.args.valid.now c.in-Err-new.fault c.in-Err-new.ensures.refused linked fit (subst IsBeforeRun c.answer_of_start.ensures before)
