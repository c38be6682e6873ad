-- The edges of the tables and those that the classes declare.
use Rattle.std.specs.Prelude.{◌≡◌, ℕ, List, length, Some, slice_get}
use Rattle.sa_unify.specs.declared.declared.Edge.{Edge}
use Rattle.sa_unify.specs.declared.written.WrittenEdge.{WrittenEdge}
use Rattle.sa_unify.specs.DeclaredEdges.{EdgeNodes, edge_of}
use Rattle.sa_hierarchy.specs.Hierarchies.{Tables}
use Rattle.sa_unify.specs.Terms.{SameInstances}

-- an edge of the tables is a declared one
pub record IsEdgeOf (w : Tables) (edge : Edge) (e : EdgeNodes) : Type 0 where
  pub lower : edge.lower ≡ e.0
  pub upper : edge.upper ≡ e.1
  pub nodes : SameInstances e.2 (w.nodes edge.pair)

-- the edge with this number is this one
pub record IsWrittenAt (w : Tables) (number : ℕ) (e : EdgeNodes) : Type 0 where
  pub edge : Edge
  pub declared : slice_get w.edges number ≡ Some edge
  pub is : IsEdgeOf w edge e

-- the edges of the tables are these, in their order
pub record AreWritten (w : Tables) (written : List WrittenEdge) : Type 0 where
  pub equal : length w.edges ≡ length written
  pub each : (number : ℕ) (x : WrittenEdge) → slice_get written number ≡ Some x → IsWrittenAt w number (edge_of x)
