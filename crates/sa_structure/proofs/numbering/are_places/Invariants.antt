use Rattle.sa_structure.proofs.Places.{PlacesSoFar}
use Rattle.sa_structure.proofs.numbering.are_places.Given as goal

abbrev pub invariant-loop-block : goal.invariant-loop-block
invariant-loop-block l = PlacesSoFar l.entries l.numbers l.block
