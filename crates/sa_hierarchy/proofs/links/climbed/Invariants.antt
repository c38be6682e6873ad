use Rattle.sa_hierarchy.specs.Hierarchies.{depth_at}
use Rattle.sa_hierarchy.proofs.Climbs.{IsOnWay}
use Rattle.sa_hierarchy.proofs.links.climbed.Given as goal

abbrev pub invariant-loop-at : goal.invariant-loop-at
invariant-loop-at l = ∥ IsOnWay l.links l.lower l.depth l.at ∥₁

abbrev pub decreases-loop-at : goal.decreases-loop-at
decreases-loop-at l = depth_at l.links l.at
