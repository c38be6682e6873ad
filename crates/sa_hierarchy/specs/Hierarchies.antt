-- What declared edges lead to, and the tables that represent it:
-- the trees of classes, and the lists of pairs at their roots. Types are lists of nodes here.
use Rattle.std.specs.Prelude.{◌≡◌, ◌⊎◌, ℕ, zero, suc, ◌+◌, ◌<◌, ◌≤◌, List, [], ◌∷◌, ◌++◌, Some, None, slice_get}
use Rattle.sa_unify.specs.declared.pattern.Node.{Node}
use Rattle.sa_unify.specs.declared.pattern.Node.TheVariants as node
use Rattle.sa_unify.specs.declared.declared.Edge.{Edge}
use Rattle.sa_hierarchy.specs.declared.links.ParentLink.{ParentLink}
use Rattle.sa_hierarchy.specs.declared.class_hierarchy.Ancestor.{Ancestor}
use Rattle.sa_hierarchy.specs.declared.class_hierarchy.Hierarchy.{Hierarchy}
use Rattle.std.specs.Option.{option_map_or}
use Rattle.sa_unify.specs.Numbers.{name_of, arity_of}
use Rattle.sa_unify.specs.EdgePairs.{nodes_of}
use Rattle.sa_unify.specs.Terms.{following, IsInstance, SameInstances, IsComposed}

-- ---- what declared edges lead to

-- the whole tables: the edges by their numbers, the node of each class in its tree, the pairs of the lists,
-- the bounds of the list of each root, the nodes of a pair, and the name of a class and how many parameters it has
pub record Tables : Type 0 where
  pub edges : List Edge
  pub links : List ParentLink
  pub above : List Ancestor
  pub lists : List (ℕ × ℕ)
  pub nodes : ℕ → List Node
  pub name : ℕ → List ℕ
  pub arity : ℕ → ℕ

-- a class by its number, at its arguments
pub record At : Type 0 where
  pub class : ℕ
  pub count : ℕ
  pub args : List Node

abbrev pub class_at : ℕ → ℕ → List Node → At
class_at class count args = record { class = class; count = count; args = args }

-- the arguments are n terms
abbrev pub AreArgs : ℕ → List Node → Type 0
AreArgs count args = following args count ≡ Some []

-- the nodes of a pair: n arguments of the subtype's class, and the supertype's class with its own
abbrev pub pair_of : ℕ → List Node → List ℕ → ℕ → List Node → List Node
pair_of n args head m above = node.List n ∷ args ++ node.Class head m ∷ above

-- one edge leads from the one to the other
pub record Step (w : Tables) (s t : At) : Type 0 where
  pub number : ℕ
  pub edge : Edge
  pub declared : slice_get w.edges number ≡ Some edge
  pub begins : edge.lower ≡ s.class
  pub ends : edge.upper ≡ t.class
  pub given : AreArgs s.count s.args
  pub gives : AreArgs t.count t.args
  pub instance : IsInstance (w.nodes edge.pair) (pair_of s.count s.args (w.name t.class) t.count t.args)

-- one or more edges lead from the one to the other
pub data Leads (w : Tables) : At → At → Type 0 where
  by_edge : {s t : At} → Step w s t → Leads w s t
  by_edges : {s t u : At} → Step w s t → Leads w t u → Leads w s u

-- ---- the trees

-- the second class is the first or an ancestor of it in its tree
pub data Line (links : List ParentLink) : ℕ → ℕ → Type 0 where
  here : {c : ℕ} → Line links c c
  up : {c u : ℕ} (link : ParentLink) (number : ℕ) → slice_get links c ≡ Some link
      → link.edge ≡ Some number → Line links link.parent u → Line links c u

-- a class that has a parent
pub record IsBelow (links : List ParentLink) (link : ParentLink) : Type 0 where
  pub parent : ParentLink
  pub is : slice_get links link.parent ≡ Some parent
  pub depth : link.depth ≡ parent.depth + 1
  pub root : link.root ≡ parent.root
  pub jump : (link.jump ≡ link.parent) ⊎ ((far : ParentLink) × (slice_get links parent.jump ≡ Some far) × (link.jump ≡ far.jump))

-- a class that is a root
pub record IsRoot (class : ℕ) (link : ParentLink) : Type 0 where
  pub edge : link.edge ≡ None
  pub depth : link.depth ≡ 0
  pub root : link.root ≡ class
  pub jump : link.jump ≡ class

abbrev pub IsLinked : List ParentLink → ℕ → ParentLink → Type 0
IsLinked links class link = IsRoot class link ⊎ ((number : ℕ) × (link.edge ≡ Some number) × IsBelow links link)

pub record AreLinked (links : List ParentLink) : Type 0 where
  pub linked : (class : ℕ) (link : ParentLink) → slice_get links class ≡ Some link → IsLinked links class link

-- the class is reached by going up from the other to this depth, or as far as its tree goes
pub record IsClimbed (links : List ParentLink) (lower depth upper : ℕ) : Type 0 where
  pub line : Line links lower upper
  pub link : ParentLink
  pub is : slice_get links upper ≡ Some link
  pub least : link.depth ≤ depth
  pub most : (own : ParentLink) → slice_get links lower ≡ Some own → depth ≤ own.depth → depth ≤ link.depth

-- the class is a proper ancestor of the other, at this depth or deeper
pub record IsHigher (links : List ParentLink) (lower depth upper : ℕ) : Type 0 where
  pub line : Line links lower upper
  pub link : ParentLink
  pub is : slice_get links upper ≡ Some link
  pub least : depth ≤ link.depth
  pub less : (own : ParentLink) → slice_get links lower ≡ Some own → link.depth < own.depth

abbrev pub depth_at : List ParentLink → ℕ → ℕ
depth_at links class = option_map_or (λ link. link.depth) (slice_get links class) 0

-- n variables, in order
abbrev pub counts : ℕ → ℕ → List Node
counts from zero = []
counts from (suc n) = node.Variable from ∷ counts (suc from) n

-- the pair that keeps its arguments
abbrev pub kept : List ℕ → ℕ → List Node
kept head n = pair_of n (counts 0 n) head n (counts 0 n)

-- the edge with this number leads from the class to its parent and keeps the arguments
pub record KeepsArgs (w : Tables) (class : ℕ) (link : ParentLink) (number : ℕ) : Type 0 where
  pub edge : Edge
  pub declared : slice_get w.edges number ≡ Some edge
  pub begins : edge.lower ≡ class
  pub ends : edge.upper ≡ link.parent
  pub keeps : w.nodes edge.pair ≡ kept (w.name link.parent) (w.arity class)
  pub arity : w.arity link.parent ≡ w.arity class

-- ---- the lists of the roots

-- the list of a root has the pair at this index
pub record InList (w : Tables) (root place : ℕ) (entry : Ancestor) : Type 0 where
  pub range : ℕ × ℕ
  pub list : slice_get w.lists root ≡ Some range
  pub from : range.0 ≤ place
  pub before : place < range.1
  pub is : slice_get w.above place ≡ Some entry
  pub owner : entry.class ≡ root

-- the nodes are those of a pair whose supertype's class has this name and n arguments
pub record HasForm (nodes : List Node) (head : List ℕ) (above : ℕ) : Type 0 where
  pub count : ℕ
  pub args : List Node
  pub ends : List Node
  pub is : nodes ≡ pair_of count args head above ends
  pub given : AreArgs count args
  pub gives : AreArgs above ends

-- the composition of the two pairs has the same instances as the third
pub record GivesPair (first second both : List Node) : Type 0 where
  pub composed : List Node
  pub gives : IsComposed first second (Some composed)
  pub same : SameInstances composed both

-- the pair leads from a class without arguments to another
pub record IsBare (nodes : List Node) : Type 0 where
  pub head : List ℕ
  pub is : nodes ≡ node.List 0 ∷ node.Class head 0 ∷ []

-- the pair begins at a class without arguments
pub record BeginsBare (nodes : List Node) : Type 0 where
  pub rest : List Node
  pub is : nodes ≡ node.List 0 ∷ rest

-- an edge composes with each type that its supertype's class has at its own arguments:
-- with each if it is a root, and else with those that have as many arguments as it has parameters
abbrev pub GoesOn : Tables → Edge → ℕ → ℕ → Type 0
GoesOn w edge root count = (root ≡ edge.upper) ⊎ (count ≡ w.arity edge.upper)

-- the composition of an edge and a pair of the list of the supertype's class is in the list of the subtype's class
pub record IsCovered (w : Tables) (edge : Edge) (entry : Ancestor) : Type 0 where
  pub place : ℕ
  pub both : Ancestor
  pub listed : InList w edge.lower place both
  pub upper : both.upper ≡ entry.upper
  pub gives : GivesPair (w.nodes edge.pair) (w.nodes entry.pair) (w.nodes both.pair)

-- nodes are a pair of a root's list with this class as the supertype's
pub record IsGivenIn (w : Tables) (root upper : ℕ) (nodes : List Node) : Type 0 where
  pub place : ℕ
  pub both : Ancestor
  pub listed : InList w root place both
  pub upper_is : both.upper ≡ upper
  pub same : SameInstances nodes (w.nodes both.pair)

-- an edge and the pair at an index don't compose, or their composition is a pair of the list of the subtype's class
pub record IsCoveredAt (w : Tables) (edge : Edge) (place : ℕ) : Type 0 where
  pub each : (entry : Ancestor) → slice_get w.above place ≡ Some entry
      → IsComposed (w.nodes edge.pair) (w.nodes entry.pair) None ⊎ IsCovered w edge entry

-- the same for each index from one on up to another
pub record AreCovered (w : Tables) (edge : Edge) (first end : ℕ) : Type 0 where
  pub each : (place : ℕ) → first ≤ place → place < end → IsCoveredAt w edge place

-- for each pair of the list of the supertype's class with which the edge composes, the composition is in the list of the subtype's class
pub record IsCovering (w : Tables) (edge : Edge) (above : ℕ) : Type 0 where
  pub link : ParentLink
  pub is : slice_get w.links edge.upper ≡ Some link
  pub covers : (place : ℕ) (entry : Ancestor) → InList w link.root place entry → GoesOn w edge link.root above
      → IsComposed (w.nodes edge.pair) (w.nodes entry.pair) None ⊎ IsCovered w edge entry

-- the pair of an edge is in the list of the subtype's class
pub record IsListed (w : Tables) (edge : Edge) : Type 0 where
  pub place : ℕ
  pub entry : Ancestor
  pub listed : InList w edge.lower place entry
  pub pair : entry.pair ≡ edge.pair
  pub upper : entry.upper ≡ edge.upper

-- an edge is represented in the tree or in a list
pub record IsKeptEdge (w : Tables) (number : ℕ) (edge : Edge) : Type 0 where
  pub link : ParentLink
  pub is : slice_get w.links edge.lower ≡ Some link
  pub kept : (link.edge ≡ Some number) ⊎ (IsRoot edge.lower link × IsListed w edge)

-- a pair of a list is that of its edge
pub record IsOwn (w : Tables) (edge : Edge) (count : ℕ) (entry : Ancestor) : Type 0 where
  pub last : entry.next ≡ None
  pub pair : entry.pair ≡ edge.pair
  pub upper : entry.upper ≡ edge.upper
  pub covering : IsCovering w edge count

-- the pair of the edge of a list's pair is in the list too
pub record HasOwn (w : Tables) (entry : Ancestor) : Type 0 where
  pub own : Ancestor
  pub is : slice_get w.above entry.own ≡ Some own
  pub edge : own.edge ≡ entry.edge
  pub last : own.next ≡ None

-- a pair of a list is the composition of its edge with an earlier one
pub record GoesOnWith (w : Tables) (edge : Edge) (count : ℕ) (entry : Ancestor) (place next : ℕ) : Type 0 where
  pub later : entry.next ≡ Some next
  pub earlier : next < place
  pub second : Ancestor
  pub link : ParentLink
  pub linked : slice_get w.links edge.upper ≡ Some link
  pub listed : InList w link.root next second
  pub whole : GoesOn w edge link.root count
  pub upper : entry.upper ≡ second.upper
  pub own : HasOwn w entry
  pub gives : GivesPair (w.nodes edge.pair) (w.nodes second.pair) (w.nodes entry.pair)

-- a pair of a list is what edges compose to
pub record IsSound (w : Tables) (place : ℕ) (entry : Ancestor) : Type 0 where
  pub edge : Edge
  pub declared : slice_get w.edges entry.edge ≡ Some edge
  pub begins : edge.lower ≡ entry.class
  pub above : ℕ
  pub form : HasForm (w.nodes edge.pair) (w.name edge.upper) above
  pub count : ℕ
  pub whole : HasForm (w.nodes entry.pair) (w.name entry.upper) count
  pub goes : IsOwn w edge above entry ⊎ ((next : ℕ) × GoesOnWith w edge above entry place next)

-- ---- what the verifier checks of the tables

pub record IsTriedLink (w : Tables) (class : ℕ) (link : ParentLink) : Type 0 where
  pub linked : IsLinked w.links class link
  pub keeps : (number : ℕ) → link.edge ≡ Some number → KeepsArgs w class link number

pub record AreTriedLinks (w : Tables) : Type 0 where
  pub each : (class : ℕ) (link : ParentLink) → slice_get w.links class ≡ Some link → IsTriedLink w class link

pub record AreTriedEdges (w : Tables) : Type 0 where
  pub each : (number : ℕ) (edge : Edge) → slice_get w.edges number ≡ Some edge → IsKeptEdge w number edge

pub record AreTriedLists (w : Tables) : Type 0 where
  pub each : (place : ℕ) (entry : Ancestor) → slice_get w.above place ≡ Some entry → IsSound w place entry

pub record AreTried (w : Tables) : Type 0 where
  pub links : AreTriedLinks w
  pub edges : AreTriedEdges w
  pub lists : AreTriedLists w

-- ---- what the tables say

-- the second is an ancestor of the first in its tree, at the same arguments
pub record InLine (w : Tables) (s t : At) : Type 0 where
  pub line : Line w.links s.class t.class
  pub apart : s.class ≡ t.class → ⊥
  pub arity : s.count ≡ w.arity s.class
  pub count : s.count ≡ t.count
  pub args : s.args ≡ t.args

-- a pair of the root's list leads from the one to the other, or to a type of which the other is an ancestor in its tree
pub record ByList (w : Tables) (s t : At) : Type 0 where
  pub link : ParentLink
  pub is : slice_get w.links s.class ≡ Some link
  pub whole : (link.root ≡ s.class) ⊎ (s.count ≡ w.arity s.class)
  pub place : ℕ
  pub entry : Ancestor
  pub listed : InList w link.root place entry
  pub line : Line w.links entry.upper t.class
  pub ends : (entry.upper ≡ t.class) ⊎ (t.count ≡ w.arity t.class)
  pub head : List ℕ
  pub instance : IsInstance (w.nodes entry.pair) (pair_of s.count s.args head t.count t.args)

abbrev pub IsFound : Tables → At → At → Type 0
IsFound w s t = InLine w s t ⊎ ByList w s t

-- ---- the tables of a program

abbrev pub tables : Hierarchy → Tables
tables l = record {
  edges = l.edges.items;
  links = l.links.items;
  above = l.above.items;
  lists = l.lists.items;
  nodes = nodes_of l.pairs;
  name = name_of l.names;
  arity = arity_of l.names;
}
