use Rattle.std.proofs.Common.{None, refl}
use Rattle.wa_run.specs.Runs.{streams}
use Rattle.wa_run.proofs.Runs.{before-run, nothing-passed, spelled-reported}
use Rattle.wa_run.proofs.Spelled.{run-spelled}
use Rattle.wa_run.proofs.module_run.run_bytes.Goals as goal

pub returns-in-Ok-clause-ran : goal.returns-in-Ok-clause-ran
returns-in-Ok-clause-ran g c =
    let here = streams (g.I.Source.input c.args.input.now) (g.O.Sink.output c.args.out.now) in
    let there = streams (g.I.Source.input c.run_module.new.input) (g.O.Sink.output c.run_module.new.out) in
    run-spelled c.args.bytes.now c.in-Ok.valid c.args.fuel c.run_module.result here there c.in-Ok.ensures.spelled.0 c.run_module.ensures.ran

pub returns-in-Ok-clause-whole : goal.returns-in-Ok-clause-whole
returns-in-Ok-clause-whole g c =
    let here = streams (g.I.Source.input c.args.input.now) (g.O.Sink.output c.args.out.now) in
    let there = streams (g.I.Source.input c.run_module.new.input) (g.O.Sink.output c.run_module.new.out) in
    spelled-reported c.args.bytes.now c.args.fuel c.run_module.result here there (returns-in-Ok-clause-ran g c)

pub returns-in-Err-clause-ran : goal.returns-in-Err-clause-ran
returns-in-Err-clause-ran g c =
    let here = streams (g.I.Source.input c.args.input.now) (g.O.Sink.output c.args.out.now) in
    nothing-passed here here _ refl refl (λ m spelled. before-run m c.args.fuel 0 c.in-Err.answer c.in-Err.ensures.before)

pub returns-in-Err-clause-whole : goal.returns-in-Err-clause-whole
returns-in-Err-clause-whole g c =
    let here = streams (g.I.Source.input c.args.input.now) (g.O.Sink.output c.args.out.now) in
    spelled-reported c.args.bytes.now c.args.fuel (record { answer = c.in-Err.answer; steps = 0; func = None }) here here (returns-in-Err-clause-ran g c)
