-- The nodes of the pairs of a program.
use Rattle.std.specs.Prelude.{ℕ, List, [], slice_get}
use Rattle.std.specs.Option.{option_map_or}
use Rattle.sa_unify.specs.declared.pair.EdgePairs.{EdgePairs}
use Rattle.sa_unify.specs.declared.pattern.Node.{Node}

-- those of the pair with a number, and none if there is no such pair
abbrev pub nodes_of : EdgePairs → ℕ → List Node
nodes_of pairs number = option_map_or (λ v. v.items) (slice_get pairs.spelled.keys number) []
