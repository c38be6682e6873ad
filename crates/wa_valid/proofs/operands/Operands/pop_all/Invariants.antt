use Rattle.std.proofs.Common.{◌≡◌, List, [], ◌++◌, length}
use Rattle.wa_syntax.specs.declared.module.ValTy.{ValTy}
use Rattle.wa_syntax.specs.Validity.{Gives}
use Rattle.wa_valid.specs.Operands.{stack, Leads}
use Rattle.wa_valid.proofs.operands.Operands.pop_all.Given as goal

abbrev pub invariant-loop-last : goal.invariant-loop-last
invariant-loop-last l =
    (taken : List ValTy) × (l.types ≡ l.rest ++ taken) × Leads (Gives taken []) (stack l.initial.self) (stack l.self)

abbrev pub decreases-loop-last : goal.decreases-loop-last
decreases-loop-last l = length l.rest
