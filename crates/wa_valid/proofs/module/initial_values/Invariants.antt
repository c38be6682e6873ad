use Rattle.std.proofs.Common.{take}
use Rattle.std.specs.Prelude.{All}
use Rattle.wa_syntax.specs.ValidModule.{IsConstant}
use Rattle.wa_valid.proofs.module.initial_values.Given as goal

abbrev pub invariant-loop-global : goal.invariant-loop-global
invariant-loop-global l = All (λ global. IsConstant l.known global.ty.val global.init) (take l.global-index l.globals)
