-- The edges that the classes of a program declare, as the nodes of their types, in source order.
use Rattle.std.specs.Prelude.{ℕ, zero, suc, List, [], ◌∷◌, ◌++◌, Option, None, Some, cond, length, map, nat_eq, flat_map, slice_get}
use Rattle.sa_ast.specs.declared.class.Class.{Class}
use Rattle.sa_ast.specs.declared.ty.Ty.{Ty}
use Rattle.sa_ast.specs.Types.{BareTy, Named, Same, Rout, Iter, no_types, type, bare}
use Rattle.sa_subst.specs.Substitution.{place_of}
use Rattle.sa_unify.specs.declared.declared.Edge.{Edge}
use Rattle.sa_unify.specs.declared.header.Header.{Header}
use Rattle.sa_unify.specs.declared.pattern.Node.{Node}
use Rattle.sa_unify.specs.declared.written.WrittenEdge.{WrittenEdge}
use Rattle.sa_unify.specs.Headers.{place_in}
use Rattle.sa_unify.specs.Numbers.{number_in}
use Rattle.sa_unify.specs.Patterns.{below_nodes, lower_nodes, above_nodes}

-- the number of the subtype's class, that of the supertype's, and the nodes
abbrev pub EdgeNodes : Type 0
EdgeNodes = ℕ × ℕ × List Node

abbrev pub edge_of : WrittenEdge → EdgeNodes
edge_of e = (e.lower, e.upper, e.nodes.items)

abbrev pub seen : List WrittenEdge → List EdgeNodes
seen edges = map edge_of edges

-- the numbers of the two classes alone
abbrev pub ends_written : WrittenEdge → ℕ × ℕ
ends_written e = (e.lower, e.upper)

abbrev pub ends_of : Edge → ℕ × ℕ
ends_of e = (e.lower, e.upper)

-- ---- in the header of a class with a number, a name and n parameters, whose indices are given

-- the number of a name without arguments, which is none for a parameter
abbrev pub number_alone : Option ℕ → Option ℕ → Option ℕ
number_alone None number = number
number_alone (Some k) number = None

module _ (number : List ℕ → Option ℕ) (place : List ℕ → Option ℕ) (own : ℕ) (name : List ℕ) (arity : ℕ) where
  -- the number of the class that a type is, if it is one
  abbrev pub class_number : BareTy → Option ℕ
  class_number (Named other no_types) = number_alone (place other) (number other)
  class_number (Named other (type t more)) = number other
  class_number Same = Some own
  class_number (Rout args of) = None
  class_number (Iter args of) = None

  abbrev pub edge_up : BareTy → Option ℕ → List EdgeNodes
  edge_up u None = []
  edge_up u (Some upper) = (own, upper, below_nodes place name arity u) ∷ []

  abbrev pub edge_down : BareTy → Option ℕ → List EdgeNodes
  edge_down u None = []
  edge_down u (Some lower) = (lower, own, above_nodes place name arity u) ∷ []

  -- the edge to a type after `<`, and that from a type after `>`
  abbrev pub edge_below : BareTy → List EdgeNodes
  edge_below u = edge_up u (class_number u)

  abbrev pub edge_above : BareTy → List EdgeNodes
  edge_above u = edge_down u (class_number u)

  abbrev pub edges_in : List Ty → List Ty → List EdgeNodes
  edges_in below above = flat_map (λ t. edge_below (bare t)) below ++ flat_map (λ t. edge_above (bare t)) above

-- ---- of all classes

-- a class declares edges if its number is its index
abbrev pub where_own : Option ℕ → ℕ → List EdgeNodes → List EdgeNodes
where_own None place edges = []
where_own (Some own) place edges = cond (nat_eq own place) edges []

abbrev pub edges_at : (List ℕ → Option ℕ) → ℕ → Option Class → List EdgeNodes
edges_at number k None = []
edges_at number k (Some c) =
    where_own (number c.name.name) k (edges_in number (place_of c.params 0) k c.name.name (length c.params) c.below c.above)

abbrev pub edges_upto : (List ℕ → Option ℕ) → List Class → ℕ → List EdgeNodes
edges_upto number classes zero = []
edges_upto number classes (suc k) = edges_upto number classes k ++ edges_at number k (slice_get classes k)

abbrev pub declared_edges : (List ℕ → Option ℕ) → List Class → List EdgeNodes
declared_edges number classes = edges_upto number classes (length classes)

-- ---- the same in a header

abbrev pub numbers_in : Header → List ℕ → Option ℕ
numbers_in header = number_in header.names.now.places

abbrev pub class_number_in : Header → Ty → Option ℕ
class_number_in header t = class_number (numbers_in header) (place_in header) header.class header.name.now header.arity (bare t)

-- the same of a name with its arguments
abbrev pub number_named : Header → List ℕ → List Ty → Option ℕ
number_named header name [] = number_alone (place_in header name) (numbers_in header name)
number_named header name (t ∷ more) = numbers_in header name

abbrev pub below_in : Header → Ty → List Node
below_in header t = below_nodes (place_in header) header.name.now header.arity (bare t)

abbrev pub lower_in : Header → Ty → List Node
lower_in header t = lower_nodes (place_in header) header.name.now header.arity (bare t)

abbrev pub above_in : Header → Ty → List Node
above_in header t = above_nodes (place_in header) header.name.now header.arity (bare t)

abbrev pub below_edge : Header → Ty → List EdgeNodes
below_edge header t = edge_below (numbers_in header) (place_in header) header.class header.name.now header.arity (bare t)

abbrev pub above_edge : Header → Ty → List EdgeNodes
above_edge header t = edge_above (numbers_in header) (place_in header) header.class header.name.now header.arity (bare t)

abbrev pub header_edges : Header → Class → List EdgeNodes
header_edges header c = edges_in (numbers_in header) (place_in header) header.class header.name.now header.arity c.below c.above
