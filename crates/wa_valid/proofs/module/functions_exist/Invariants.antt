use Rattle.std.proofs.Common.{◌<◌, length, take}
use Rattle.std.specs.Prelude.{All}
use Rattle.wa_valid.proofs.module.functions_exist.Given as goal

abbrev pub invariant-loop-func : goal.invariant-loop-func
invariant-loop-func l = All (λ func. func < length l.context.funcs) (take l.func-index l.funcs)
