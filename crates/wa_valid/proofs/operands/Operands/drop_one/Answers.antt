use Rattle.std.proofs.Common.{true≢false, ap}
use Rattle.std.specs.Prelude.{is_ok}
use Rattle.wa_valid.specs.Operands.{stack}
use Rattle.wa_valid.proofs.Steps.{Leads-drop}
use Rattle.wa_valid.proofs.operands.Operands.drop_one.Goals as goal

pub returns : goal.returns
returns c = λ ctx. (
  λ ok. Leads-drop ctx (stack c.args.self.now) (stack c.take.new.self) c.in_ok-take.field-0 c.in_ok-take.ensures.0,
  λ is. absurd (true≢false (ap is_ok is)),
)
