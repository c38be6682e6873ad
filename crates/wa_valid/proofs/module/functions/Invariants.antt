use Rattle.std.proofs.Common.{◌<◌, length, take}
use Rattle.std.specs.Prelude.{All}
use Rattle.wa_valid.proofs.module.functions.Given as goal

abbrev pub invariant-loop-func : goal.invariant-loop-func
invariant-loop-func l = All (λ func. func.ty < length l.types) (take l.func-index l.funcs)
