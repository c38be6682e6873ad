use Rattle.std.proofs.Common.{refl}
use Rattle.wa_run.specs.Runs.{streams}
use Rattle.wa_run.proofs.Runs.{before-run, nothing-passed}
use Rattle.wa_run.proofs.WithinLemmas.{run-within, says-within}
use Rattle.wa_run.specs.Within.{within}
use Rattle.wa_run.proofs.within.run_within.Goals as goal

pub returns-in-Ok-clause-says : goal.returns-in-Ok-clause-says
returns-in-Ok-clause-says g c =
    let m = c.in-Ok.ensures.spelled in
    says-within c.args.pages c.args.bytes.now m.0 c.in-Ok.valid c.run_module.result.answer m.1 m.2 m.3 c.run_module.ensures.says

pub returns-in-Ok-clause-ran : goal.returns-in-Ok-clause-ran
returns-in-Ok-clause-ran g c =
    let here = streams (g.I.Source.input c.args.input.now) (g.O.Sink.output c.args.out.now) in
    let there = streams (g.I.Source.input c.run_module.new.input) (g.O.Sink.output c.run_module.new.out) in
    let m = c.in-Ok.ensures.spelled in
    run-within c.args.pages c.args.bytes.now m.0 c.in-Ok.valid c.args.fuel c.run_module.result here there m.1 m.2 c.run_module.ensures.ran

pub returns-in-Err-clause-ran : goal.returns-in-Err-clause-ran
returns-in-Err-clause-ran g c =
    let here = streams (g.I.Source.input c.args.input.now) (g.O.Sink.output c.args.out.now) in
    nothing-passed here here _ refl refl (λ m spelled. before-run (within c.args.pages m) c.args.fuel 0 c.in-Err.answer c.in-Err.ensures.before)
