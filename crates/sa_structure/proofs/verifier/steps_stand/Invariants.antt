use Rattle.std.proofs.Common.{◌≡◌, drop}
use Rattle.sa_structure.specs.Stands.{each, step_occurs}
use Rattle.sa_structure.proofs.verifier.steps_stand.Given as goal

abbrev pub invariant-loop-step : goal.invariant-loop-step
invariant-loop-step l =
    each (step_occurs l.against.body.now l.against.again.now l.seen) l.steps
    ≡ each (step_occurs l.against.body.now l.against.again.now l.seen) (drop l.step-index l.steps)
