use Rattle.std.proofs.Common.{◌≡◌}
use Rattle.sa_unify.specs.DeclaredEdges.{edges_upto, seen}
use Rattle.sa_unify.specs.Numbers.{number_in}
use Rattle.sa_unify.proofs.written.written_edges.Given as goal

abbrev pub invariant-loop-place : goal.invariant-loop-place
invariant-loop-place l = seen l.edges.items ≡ edges_upto (number_in l.names.places) l.classes l.place
