use Rattle.std.proofs.Common.{◌≡◌, map, take}
use Rattle.sa_unify.proofs.declared.lowers.Given as goal

abbrev pub invariant-loop-edge : goal.invariant-loop-edge
invariant-loop-edge l = l.lowers.items ≡ map (λ e. e.lower) (take l.edge-index l.edges)
