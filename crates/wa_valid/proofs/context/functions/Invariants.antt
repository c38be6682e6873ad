use Rattle.std.proofs.Common.{◌≡◌, ◌++◌, map, take}
use Rattle.wa_valid.proofs.context.functions.Given as goal

abbrev pub invariant-loop-func : goal.invariant-loop-func
invariant-loop-func l = l.found ≡ l.initial.found ++ map (λ func. func.ty) (take l.func-index l.own)
