use Rattle.std.proofs.Common.{◌≡◌, map, take}
use Rattle.sa_unify.proofs.names.names_of.Given as goal

abbrev pub invariant-loop-class : goal.invariant-loop-class
invariant-loop-class l = l.names.items ≡ map (λ c. c.name.name) (take l.class-index l.classes)
