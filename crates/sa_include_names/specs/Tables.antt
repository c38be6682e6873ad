-- The tables of names.
use Rattle.std.specs.Prelude.{◌≡◌, ◌⊎◌, ◌↔◌, Bool, ℕ, List, [], Option, None, Some, Contains, cond, length, nat_eq, slice_get}
use Rattle.std.specs.Cmp.Lexicographic.{pointwise}
use Rattle.indexmap.specs.IndexMap.{get}
use Rattle.indexmap.specs.IndexSet.{contains}
use Rattle.sa_ast.specs.declared.class.Class.{Class}
use Rattle.sa_ast.specs.declared.class.Include.{Include}
use Rattle.sa_ast.specs.declared.class.TypeParam.{TypeParam}
use Rattle.sa_ast.specs.declared.pos.Pos.{Pos}
use Rattle.sa_ast.specs.declared.refusal.Refusal.{Refusal}
use Rattle.sa_ast.specs.declared.rule.Rule.TheVariants as rule
use Rattle.sa_ast.specs.declared.ty.Ty.{Ty}
use Rattle.sa_ast.specs.Types.{BareTy, Named, bare}
use Rattle.sa_graph.specs.Paths.{HasEdge, IsEdge, IsFirst, node_count}
use Rattle.sa_graph.specs.declared.graph.Graph.{Graph}
use Rattle.sa_include_names.specs.Headers.{may_include, may_occur, misused_above, misused_in, misused_include, misused_names}
use Rattle.sa_include_names.specs.Headers.{passes_as_included}
use Rattle.sa_include_names.specs.declared.graph.Edges.{Edges}
use Rattle.sa_include_names.specs.declared.header.NameScope.{NameScope}
use Rattle.sa_include_names.specs.declared.names.ClassNumbers.{ClassNumbers}
use Rattle.sa_include_names.specs.declared.names.ParamNames.{ParamNames}
use Rattle.sa_include_names.specs.Includes.{DoesInclude}
use Rattle.sa_include_names.specs.Names.{hides, number_of}

abbrev pub number_in : ClassNumbers → List ℕ → Option ℕ
number_in numbers name = get (pointwise nat_eq) numbers.by_name name

pub record HasNumbers (classes : List Class) (numbers : ClassNumbers) : Type 0 where
  pub each : (name : List ℕ) → number_in numbers name ≡ number_of classes name

abbrev pub hidden_in : ParamNames → List ℕ → Bool
hidden_in params name = contains (pointwise nat_eq) params.names name

abbrev pub HasParams : List TypeParam → ParamNames → Type 0
HasParams params names = (name : List ℕ) → hidden_in names name ≡ hides params name

-- ---- what names denote in a class

abbrev pub occurs_in : NameScope → List ℕ → Bool → Bool
occurs_in scope = may_occur scope.classes.now (number_in scope.numbers.now) scope.arrays.now scope.kind (hidden_in scope.params)

abbrev pub misused_above_in : NameScope → Ty → List Pos
misused_above_in scope = misused_above scope.classes.now (number_in scope.numbers.now) scope.arrays.now scope.kind (hidden_in scope.params)

abbrev pub includes_in : NameScope → List ℕ → Bool
includes_in scope = may_include scope.classes.now (number_in scope.numbers.now) scope.arrays.now scope.kind (hidden_in scope.params)

abbrev pub passes_in : NameScope → List ℕ → ℕ → Class → Bool
passes_in scope =
    passes_as_included scope.classes.now (number_in scope.numbers.now) scope.arrays.now scope.kind (hidden_in scope.params)

abbrev pub misused_include_in : NameScope → Ty → List Pos
misused_include_in scope =
    misused_include scope.classes.now (number_in scope.numbers.now) scope.arrays.now scope.kind (hidden_in scope.params)

abbrev pub misused_class_in : NameScope → Class → List Pos
misused_class_in scope = misused_in scope.classes.now (number_in scope.numbers.now) scope.arrays.now scope.kind (hidden_in scope.params)

-- the first of them
abbrev pub first : List Pos → Option Pos
first list = slice_get list 0

-- ---- the include clauses as edges

-- the class that a type of an include clause names
abbrev pub included_in : ParamNames → ClassNumbers → BareTy → Option ℕ
included_in params numbers (Named name given) = cond (hidden_in params name) None (number_in numbers name)
included_in params numbers other = None

-- a number, if there is one
abbrev pub IsNumber : Option ℕ → ℕ → Type 0
IsNumber found number = found ≡ Some number

-- one of the clauses names the class
abbrev pub NamesHere : ParamNames → ClassNumbers → List Include → ℕ → Type 0
NamesHere params numbers includes to =
    (clause : Include) × Contains includes clause × (included_in params numbers (bare clause.ty) ≡ Some to)

abbrev pub HasEdgeIn : Edges → ℕ → ℕ → Type 0
HasEdgeIn edges = HasEdge edges.starts.items edges.ends.items

-- there are edges more from a class to each of these
pub record AddsEdges (from : ℕ) (To : ℕ → Type 0) (old new : Edges) : Type 0 where
  pub count : length old.starts.items ≡ length old.ends.items → length new.starts.items ≡ length new.ends.items
  pub kept : length old.starts.items ≡ length old.ends.items → (a b : ℕ) → HasEdgeIn old a b → HasEdgeIn new a b
  pub added : length old.starts.items ≡ length old.ends.items → (b : ℕ) → To b → HasEdgeIn new from b
  pub only : length old.starts.items ≡ length old.ends.items → (a b : ℕ) → HasEdgeIn new a b → HasEdgeIn old a b ⊎ ((a ≡ from) × To b)

-- the edges are the include clauses of these classes
pub record AreEdges (classes : List Class) (edges : Edges) : Type 0 where
  pub count : length edges.starts.items ≡ length edges.ends.items
  pub includes : (a b : ℕ) → HasEdgeIn edges a b ↔ DoesInclude classes a b

-- a graph of the classes has these edges
pub record AreGraphOf (classes : List Class) (graph : Graph) : Type 0 where
  pub count : node_count graph ≡ length classes
  pub includes : (a b : ℕ) → IsEdge graph a b ↔ DoesInclude classes a b

-- each type is allowed where it is
pub record NoneMisused (classes : List Class) (arrays : List Bool) : Type 0 where
  pub none : misused_names classes arrays ≡ []

-- the refusal of the first type that isn't allowed where it is, where the classes with an array part are marked
pub record MisusedAt (classes : List Class) (arrays : List Bool) (refusal : Refusal) : Type 0 where
  pub first : slice_get (misused_names classes arrays) 0 ≡ Some refusal.pos
  pub rule : refusal.rule ≡ rule.ClassNotUsable

-- the refusal of a cycle, at the name of the class with this number
pub record IsNamed (classes : List Class) (number : ℕ) (refusal : Refusal) : Type 0 where
  pub class : Class
  pub at : slice_get classes number ≡ Some class
  pub is : refusal ≡ record { rule = rule.Cycle; pos = class.name.pos }

-- it is that of the first class on one
pub record CycleAt (classes : List Class) (graph : Graph) (refusal : Refusal) : Type 0 where
  pub number : ℕ
  pub named : IsNamed classes number refusal
  pub first : IsFirst graph number
