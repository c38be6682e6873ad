use Rattle.std.proofs.Common.{refl}
use Rattle.wa_valid.specs.Operands.{stack}
use Rattle.wa_valid.proofs.Steps.{Leads-gives_more}
use Rattle.wa_valid.proofs.operands.Operands.push_all.Goals as goal

pub loop-ty-preserved : goal.loop-ty-preserved
loop-ty-preserved c =
    Leads-gives_more c.args.types.now c.loop-ty.ty-index _ (stack c.args.self.now) (stack c.loop-ty.self) (stack c.push.new.self) c.loop-ty-test.true c.loop-ty.invariant (c.in_ok-push.ensures.answers.0 refl)
