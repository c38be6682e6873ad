use Rattle.std.proofs.Common.{◌≡◌, ◌-◌, map}
use Rattle.sa_ast.specs.Types.{bare}
use Rattle.sa_subtypes.specs.SubtypeTest.{tables_in}
use Rattle.sa_subtypes.specs.Deciding.{place_by, some_place}
use Rattle.sa_subtypes.proofs.edges.SubtypeRelation.is_within.Given as goal

abbrev pub invariant-loop-place : goal.invariant-loop-place
invariant-loop-place l =
    some_place (place_by (tables_in l.self) l.root (map bare l.args) l.upper (map bare l.above)) l.first (l.end - l.first) ≡ some_place (place_by (tables_in l.self) l.root (map bare l.args) l.upper (map bare l.above)) l.place (l.end - l.place)
