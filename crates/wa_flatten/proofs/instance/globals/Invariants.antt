use Rattle.std.proofs.Common.{◌≡◌, [], map, take}
use Rattle.wa_syntax.specs.Runs.{init_value}
use Rattle.wa_flatten.proofs.instance.globals.Given as goal

abbrev pub invariant-loop-def : goal.invariant-loop-def
invariant-loop-def l = l.globals.items ≡ map (λ def. init_value [] def.init) (take l.def-index l.defs)
