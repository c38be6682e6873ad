use Rattle.std.proofs.Common.{◌≡◌, map, take}
use Rattle.sa_unify.proofs.declared.uppers.Given as goal

abbrev pub invariant-loop-edge : goal.invariant-loop-edge
invariant-loop-edge l = l.uppers.items ≡ map (λ e. e.upper) (take l.edge-index l.edges)
