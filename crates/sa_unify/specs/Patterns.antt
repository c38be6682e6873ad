-- The nodes of an edge that a class declares: the list of the subtype's arguments, and then the supertype.
use Rattle.std.specs.Prelude.{◌≡◌, ℕ, List, [], ◌∷◌, ◌++◌, Option, None}
use Rattle.sa_ast.specs.Types.{BareTy, Named, Same, Rout, Iter, BareTys, no_types, type}
use Rattle.sa_unify.specs.declared.pattern.Node.{Node}
use Rattle.sa_unify.specs.declared.pattern.Node.TheVariants as node
use Rattle.sa_unify.specs.Spelled.{count_types, variables, own_nodes, written, written_all, spelled, spelled_all}

-- those of two types without variables, where the subtype has these arguments
abbrev pub pair_nodes : BareTys → BareTy → List Node
pair_nodes args t = node.List (count_types args) ∷ spelled_all args ++ spelled t

-- in the header of a class with a name and n parameters, whose indices are given
module _ (place : List ℕ → Option ℕ) (name : List ℕ) (arity : ℕ) where
  -- the class as the subtype of a type
  abbrev pub below_nodes : BareTy → List Node
  below_nodes u = node.List arity ∷ variables arity ++ written place (own_nodes name arity) u

  -- the arguments of a type that is a class
  abbrev pub lower_nodes : BareTy → List Node
  lower_nodes (Named other args) = node.List (count_types args) ∷ written_all place (own_nodes name arity) args
  lower_nodes Same = node.List arity ∷ variables arity
  lower_nodes (Rout args of) = []
  lower_nodes (Iter args of) = []

  -- the class as the supertype of a type
  abbrev pub above_nodes : BareTy → List Node
  above_nodes u = lower_nodes u ++ own_nodes name arity

  -- the type is a class: SAME, or a name that is no parameter
  abbrev pub IsNamedIn : BareTy → Type 0
  IsNamedIn (Named other no_types) = place other ≡ None
  IsNamedIn (Named other (type t more)) = Unit {0}
  IsNamedIn Same = Unit {0}
  IsNamedIn (Rout args of) = ⊥
  IsNamedIn (Iter args of) = ⊥

  -- its name
  abbrev pub head_name : BareTy → List ℕ
  head_name (Named other args) = other
  head_name Same = name
  head_name (Rout args of) = []
  head_name (Iter args of) = []
