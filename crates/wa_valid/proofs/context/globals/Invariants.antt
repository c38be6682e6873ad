use Rattle.std.proofs.Common.{◌≡◌, ◌++◌, map, take}
use Rattle.wa_valid.proofs.context.globals.Given as goal

abbrev pub invariant-loop-global : goal.invariant-loop-global
invariant-loop-global l = l.found ≡ l.initial.found ++ map (λ global. global.ty) (take l.global-index l.own)
