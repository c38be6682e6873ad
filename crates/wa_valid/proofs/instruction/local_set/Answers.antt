use Rattle.wa_valid.specs.Names.{names_in}
use Rattle.wa_valid.specs.Operands.{stack}
use Rattle.wa_valid.proofs.Typed.{typed-LocalSet}
use Rattle.wa_valid.proofs.instruction.local_set.Goals as goal

pub returns : goal.returns
returns c = λ labels.
    typed-LocalSet (names_in c.args.scope.now labels) c.args.local c.in_ok-ty.ty (stack c.args.operands.now) (stack c.apply.new.self) c.apply.result c.in_ok-ty.ensures.ok c.apply.ensures
