use Rattle.std.proofs.Common.{sym, true≢false}
use Rattle.wa_valid.specs.Effects.{type_of_effect}
use Rattle.wa_valid.specs.Operands.{stack}
use Rattle.wa_valid.proofs.Typed.{typed-Numeric, untyped-Numeric}
use Rattle.wa_valid.proofs.numeric.numeric.Goals as goal

pub returns-in-Some : goal.returns-in-Some
returns-in-Some c = λ ctx.
    typed-Numeric ctx c.args.opcode (type_of_effect c.in-Some.effect) (stack c.args.operands.now) (stack c.apply.new.self) c.apply.result (sym c.in-Some.ensures) c.apply.ensures

pub returns-in-None : goal.returns-in-None
returns-in-None c = λ ctx. (
  λ ok. absurd (true≢false (sym ok)),
  λ is. untyped-Numeric ctx c.args.opcode (stack c.args.operands.now) (sym c.in-None.ensures),
)
