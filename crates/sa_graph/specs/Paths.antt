-- The paths along the edges of a graph.
use Rattle.std.specs.Prelude.{◌≡◌, ℕ, ◌<◌, List, Option, Some, MatchOption, slice_get}
use Rattle.sa_graph.specs.declared.graph.Graph.{Graph}

-- an edge leads from one node to another: at some index the one is among the starts, and the other among the ends
abbrev pub HasEdge : List ℕ → List ℕ → ℕ → ℕ → Type 0
HasEdge starts ends from to = (place : ℕ) × (slice_get starts place ≡ Some from) × (slice_get ends place ≡ Some to)

-- a path of one edge or more leads from a node to another
pub data HasPath (Edge : ℕ → ℕ → Type 0) (from : ℕ) : ℕ → Type 0 where
  by_edge : {to : ℕ} → Edge from to → HasPath Edge from to
  by_edges : {between to : ℕ} → HasPath Edge from between → Edge between to → HasPath Edge from to

abbrev pub node_count : Graph → ℕ
node_count graph = graph.count

abbrev pub starts_of : Graph → List ℕ
starts_of graph = graph.starts.items

abbrev pub ends_of : Graph → List ℕ
ends_of graph = graph.ends.items

abbrev pub IsEdge : Graph → ℕ → ℕ → Type 0
IsEdge graph = HasEdge (starts_of graph) (ends_of graph)

-- a node lies on a cycle: it has a path to itself
abbrev pub IsOnCycle : Graph → ℕ → Type 0
IsOnCycle graph node = HasPath (IsEdge graph) node node

-- no node before this number does
pub record NoneBefore (graph : Graph) (bound : ℕ) : Type 0 where
  pub none : (node : ℕ) → node < bound → ¬ IsOnCycle graph node

-- the first node on a cycle, if there is one
pub record IsFirst (graph : Graph) (node : ℕ) : Type 0 where
  pub cycle : IsOnCycle graph node
  pub first : NoneBefore graph node

abbrev pub IsFirstOnCycle : Graph → Option ℕ → Type 0
IsFirstOnCycle graph found = MatchOption found (NoneBefore graph (node_count graph)) (IsFirst graph)
