use Rattle.std.proofs.Common.{[], take}
use Rattle.wa_syntax.specs.Validity.{Gives}
use Rattle.wa_valid.specs.Operands.{stack, Leads}
use Rattle.wa_valid.proofs.operands.Operands.push_all.Given as goal

abbrev pub invariant-loop-ty : goal.invariant-loop-ty
invariant-loop-ty l = Leads (Gives [] (take l.ty-index l.types)) (stack l.initial.self) (stack l.self)
