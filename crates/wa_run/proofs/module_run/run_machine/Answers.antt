use Rattle.std.proofs.Common.{None, rules, ◌≤◌, ℕ, Some, refl, sym, subst}
use Rattle.host_io.proofs.Growth.{Grew-trans}
use Rattle.wa_flatten.specs.Codes.{layout_of}
use Rattle.wa_exec.specs.Linking.{flat_of}
use Rattle.wa_exec.specs.Interaction.{Makes, sides}
use Rattle.wa_exec.specs.Describes.{faults_of}
use Rattle.wa_run.specs.declared.answer.Answer.{Answer}
use Rattle.wa_run.specs.Runs.{HasRunModule, IsClosed, streams}
use Rattle.wa_run.proofs.Runs.{run-passed, seen, spent-at}
use Rattle.wa_run.proofs.module_run.run_machine.Goals as goal

pub returns-clause-output : goal.returns-clause-output
returns-clause-output g c = Grew-trans _ _ _ c.step_until-halt.ensures.output c.answer_after_flush.ensures.output

pub returns-clause-ran : goal.returns-clause-ran
returns-clause-ran g c = λ m valid linked runs begins none.
    (let row = layout_of c.args.machine.linked.code in
    let flat = flat_of c.args.machine.state in
    let new = flat_of c.step_until-halt.new.self.state in
    let here = sides (g.I.Source.input c.args.input.now) (g.I.Source.ended c.args.input.now) (g.O.Sink.output c.args.out.now) in
    let mid = sides (g.I.Source.input c.step_until-halt.new.input) (g.I.Source.ended c.step_until-halt.new.input) (g.O.Sink.output c.step_until-halt.new.out) in
    let after_all = streams (g.I.Source.input c.step_until-halt.new.input) (g.O.Sink.output c.answer_after_flush.new.out) in
    let h = c.step_until-halt.result in
    let steps = c.step_until-halt.new.self.steps in
    let left = c.step_until-halt.new.host in
    let before = faults_of (g.I.Source.faults c.args.input.now) (g.O.Sink.faults c.args.out.now) in
    let after = faults_of (g.I.Source.faults c.step_until-halt.new.input) (g.O.Sink.faults c.step_until-halt.new.out) in
    let within : steps ≤ c.args.fuel = search rules in
    let from : c.args.machine.steps ≤ c.args.fuel = search rules in
    let makes : Makes m row flat new 0 steps (Some h) here mid c.args.host.now left =
    subst (λ (n : ℕ). Makes m row flat new n steps (Some h) here mid c.args.host.now left) c.requires.steps (c.step_until-halt.ensures.makes m runs c.requires.halt from)
    in
    let closed = subst (λ (a : Answer). IsClosed a c.answer_after_flush.result left mid.output after_all.output) c.answer_of_halt.ensures.value c.answer_after_flush.ensures.closed in
    let passed = run-passed m valid linked row flat new begins c.args.fuel steps within h
    (spent-at h before after steps c.args.fuel (c.step_until-halt.ensures.reports c.requires.halt) within)
    c.answer_after_flush.result c.args.host.now left here mid after_all none makes closed refl
    in
    subst (λ (n : ℕ). HasRunModule m c.args.fuel (record { answer = c.answer_after_flush.result; steps = n; func = None }) (seen here) after_all) (sym c.steps.ensures) passed)
