use Rattle.wa_valid.specs.Operands.{stack}
use Rattle.wa_valid.proofs.Steps.{Leads-pop, IsStuck-pop}
use Rattle.wa_valid.proofs.operands.Operands.pop.Goals as goal

pub returns : goal.returns
returns c = (
  λ ok. Leads-pop (stack c.args.self.now) (stack c.take.new.self) c.in_ok-operand.operand c.args.ty c.in_ok-operand.ensures.0 (c.is_of.ensures.0 (c.require.ensures.0 ok)),
  λ is. IsStuck-pop (stack c.args.self.now) (stack c.take.new.self) c.in_ok-operand.operand c.args.ty c.in_ok-operand.ensures.0 (λ of. c.require.ensures.1 is (c.is_of.ensures.1 of)),
)
