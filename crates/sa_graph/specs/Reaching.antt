-- The nodes that have a path to a given one.
use Rattle.std.specs.Prelude.{◌≡◌, ◌⊎◌, ◌↔◌, ◌<◌, ℕ, Bool, true, false, List, Some, slice_get}
use Rattle.std.specs.List.{slice_index_or}
use Rattle.sa_graph.specs.declared.graph.Graph.{Graph}
use Rattle.sa_graph.specs.declared.reach.Ways.{Ways}
use Rattle.sa_graph.specs.Levels.{level_of}
use Rattle.sa_graph.specs.Paths.{IsEdge, HasPath, ends_of, starts_of}

abbrev pub is_set : List Bool → ℕ → Bool
is_set marks node = slice_index_or marks node false

-- a node is this one, or has a path to it
abbrev pub Reaches : Graph → ℕ → ℕ → Type 0
Reaches graph to node = (node ≡ to) ⊎ HasPath (IsEdge graph) node to

-- exactly those are marked
pub record AreReaching (graph : Graph) (to : ℕ) (marks : List Bool) : Type 0 where
  pub exactly : (node : ℕ) → (is_set marks node ≡ true) ↔ Reaches graph to node

-- ---- what is verified

-- where the end of the edge at an index is marked, its start is
pub record IsClosedAt (graph : Graph) (marks : List Bool) (place : ℕ) : Type 0 where
  pub closed : (from next : ℕ) → slice_get (starts_of graph) place ≡ Some from → slice_get (ends_of graph) place ≡ Some next
      → is_set marks next ≡ true → is_set marks from ≡ true

-- it is so of each edge
pub record IsClosed (graph : Graph) (marks : List Bool) : Type 0 where
  pub closed : (from next : ℕ) → IsEdge graph from next → is_set marks next ≡ true → is_set marks from ≡ true

-- an edge leads from a node to one that is marked, and from which fewer steps are left
pub record GoesOn (graph : Graph) (ways : Ways) (node : ℕ) : Type 0 where
  pub next : ℕ
  pub edge : IsEdge graph node next
  pub marked : is_set ways.marks.items next ≡ true
  pub fewer : level_of ways.steps.items next < level_of ways.steps.items node

-- it is so of a node that is marked, but for the one that the paths lead to
pub record IsOnWay (graph : Graph) (ways : Ways) (to node : ℕ) : Type 0 where
  pub way : is_set ways.marks.items node ≡ true → (node ≡ to) ⊎ GoesOn graph ways node

-- it is so of each node
pub record WaysGoOn (graph : Graph) (ways : Ways) (to : ℕ) : Type 0 where
  pub each : (node : ℕ) → IsOnWay graph ways to node
