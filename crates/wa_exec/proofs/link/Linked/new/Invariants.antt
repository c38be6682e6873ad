use Rattle.std.proofs.Common.{◌≡◌, ◌++◌, map, take}
use Rattle.wa_exec.specs.declared.link.ActivationCallee.{ActivationCallee}
use Rattle.wa_exec.proofs.link.Linked.new.Given as goal

abbrev pub invariant-loop-body : goal.invariant-loop-body
invariant-loop-body l = l.callees.items ≡ l.initial.callees.items ++ map ActivationCallee.Own (take l.body-index l.fn.code.bodies.items)
