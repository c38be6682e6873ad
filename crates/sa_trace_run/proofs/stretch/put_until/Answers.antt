use Rattle.std.proofs.Common.{◌≡◌, ◌∙◌, ◌⊎◌, ℕ, List, [], Some, ap, arith, refl, subst}
use Rattle.wa_flatten.specs.Codes.{layout_of}
use Rattle.wa_exec.specs.Linking.{flat_of}
use Rattle.wa_exec.specs.Interaction.{Makes, sides}
use Rattle.wa_exec.specs.Progress.{halted}
use Rattle.wa_exec.specs.Describes.{faults_of}
use Rattle.wa_run.specs.declared.answer.Answer.{Answer}
use Rattle.host_io.specs.Faults.{Rose}
use Rattle.wa_run.specs.Answers.{IsOutage}
use Rattle.wa_run.specs.Runs.{IsClosed}
use Rattle.wa_run.proofs.Runs.{spent-at}
use Rattle.sa_trace_run.proofs.Stretches.{came-to, closed-spent, stretch-reported}
use Rattle.sa_trace_run.proofs.stretch.put_until.Goals as goal

pub returns-clause-reported : goal.returns-clause-reported
returns-clause-reported g c =
    let before = faults_of (g.I.Source.faults c.args.input.now) 0 in
    let after = faults_of (g.I.Source.faults c.step_until-halt.new.input) 0 in
    stretch-reported c.step_until-halt.result before after c.step_until-halt.new.self.steps c.args.end c.answer_after_flush.result refl refl
    (c.step_until-halt.ensures.reports c.requires.halt)
    (subst (λ (a : Answer). (c.answer_after_flush.result ≡ a) ⊎ IsOutage c.answer_after_flush.result (Rose 0 0)) c.answer_of_halt.ensures.value c.answer_after_flush.ensures.same)

pub returns-clause-within : goal.returns-clause-within
returns-clause-within g c = omega (arith, c.step_until-halt.ensures.within, c.requires.steps)

pub returns-clause-spent : goal.returns-clause-spent
returns-clause-spent g c = λ spent.
    let h = c.step_until-halt.result in
    let before = faults_of (g.I.Source.faults c.args.input.now) 0 in
    let after = faults_of (g.I.Source.faults c.step_until-halt.new.input) 0 in
    let closed = subst (λ (a : Answer). IsClosed a c.answer_after_flush.result c.step_until-halt.new.host (Some c.step_until-halt.new.out) (Some c.answer_after_flush.new.out)) c.answer_of_halt.ensures.value c.answer_after_flush.ensures.closed in
    spent-at h before after c.step_until-halt.new.self.steps c.args.end (c.step_until-halt.ensures.reports c.requires.halt)
    (omega (arith, c.step_until-halt.ensures.within, c.requires.steps))
    (closed-spent h c.answer_after_flush.result c.step_until-halt.new.host (Some c.step_until-halt.new.out) (Some c.answer_after_flush.new.out) closed spent)

pub returns-clause-goes : goal.returns-clause-goes
returns-clause-goes g c = λ spent.
    let h = c.step_until-halt.result in
    let closed = subst (λ (a : Answer). IsClosed a c.answer_after_flush.result c.step_until-halt.new.host (Some c.step_until-halt.new.out) (Some c.answer_after_flush.new.out)) c.answer_of_halt.ensures.value c.answer_after_flush.ensures.closed in
    let is = closed-spent h c.answer_after_flush.result c.step_until-halt.new.host (Some c.step_until-halt.new.out) (Some c.answer_after_flush.new.out) closed spent in
    c.step_until-halt.ensures.halted c.requires.halt ∙ ap halted is

pub returns-clause-came : goal.returns-clause-came
returns-clause-came g c = λ b fuel put most goes.
    (let old = c.args.machine.now in
    let new = c.step_until-halt.new.self in
    let from = g.I.Source.input c.args.input.now in
    let to = g.I.Source.input c.step_until-halt.new.input in
    let ended_before = g.I.Source.ended c.args.input.now in
    let ended_after = g.I.Source.ended c.step_until-halt.new.input in
    let h = c.step_until-halt.result in
    let held = c.args.host.now in
    let left = c.step_until-halt.new.host in
    let mid = c.step_until-halt.new.out in
    let closed = subst (λ (a : Answer). IsClosed a c.answer_after_flush.result left (Some mid) (Some c.answer_after_flush.new.out)) c.answer_of_halt.ensures.value c.answer_after_flush.ensures.closed in
    let makes : Makes b.program (layout_of old.linked.code) (flat_of old.state) (flat_of new.state) old.steps new.steps (Some h) (sides from ended_before (Some [])) (sides to ended_after (Some mid)) held left =
    subst (λ (bytes : List ℕ). Makes b.program (layout_of old.linked.code) (flat_of old.state) (flat_of new.state) old.steps new.steps (Some h) (sides from ended_before (Some bytes)) (sides to ended_after (Some mid)) held left) c.requires.empty
    (c.step_until-halt.ensures.makes b.program goes.runs c.requires.halt c.requires.steps)
    in
    came-to b fuel put old new held left c.answer_after_flush.new.host mid c.answer_after_flush.new.out from to ended_before ended_after h c.answer_after_flush.result goes makes closed
    (omega (arith, c.step_until-halt.ensures.within, c.requires.steps, most))
    c.answer_after_flush.ensures.empties (c.step_until-halt.ensures.runs b.program goes.runs) c.step_until-halt.ensures.linked)
