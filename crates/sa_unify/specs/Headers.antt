-- How a type is spelled in the header of a class.
use Rattle.std.specs.Prelude.{◌≡◌, ℕ, List, [], ◌∷◌, ◌++◌, Option, None, Some, nat_eq, length, flat_map}
use Rattle.std.specs.Cmp.Lexicographic.{pointwise}
use Rattle.std.specs.HashMap.{get}
use Rattle.sa_ast.specs.declared.class.Class.{Class}
use Rattle.sa_ast.specs.declared.ty.ModeTy.{ModeTy}
use Rattle.sa_ast.specs.declared.ty.Ty.{Ty}
use Rattle.sa_ast.specs.Types.{bare}
use Rattle.sa_subst.specs.Substitution.{HasPlaces}
use Rattle.sa_unify.specs.declared.header.Header.{Header}
use Rattle.sa_unify.specs.declared.names.Names.{Names}
use Rattle.sa_unify.specs.declared.pattern.Node.{Node}
use Rattle.sa_unify.specs.declared.pattern.Node.TheVariants as node
use Rattle.sa_unify.specs.Spelled.{alone, own_nodes, written}

-- the number of a parameter
abbrev pub place_in : Header → List ℕ → Option ℕ
place_in header name = get (pointwise nat_eq) header.params name

-- the class with its parameters
abbrev pub own_in : Header → List Node
own_in header = own_nodes header.name.now header.arity

-- a type
abbrev pub ty_nodes : Header → Ty → List Node
ty_nodes header t = written (place_in header) (own_in header) (bare t)

-- ---- its parts, spelled in a row

abbrev pub named_nodes : Header → List ℕ → List Ty → List Node
named_nodes header name [] = alone (place_in header name) name
named_nodes header name (t ∷ more) = node.Class name (length (t ∷ more)) ∷ flat_map (ty_nodes header) (t ∷ more)

abbrev pub arg_nodes : Header → ModeTy → List Node
arg_nodes header a = node.Passed a.mode ∷ ty_nodes header a.ty

abbrev pub result_nodes : Header → Option Ty → List Node
result_nodes header None = []
result_nodes header (Some t) = ty_nodes header t

abbrev pub bound_nodes : Header → List ModeTy → Option Ty → List Node
bound_nodes header args of = flat_map (arg_nodes header) args ++ result_nodes header of

abbrev pub count_of : Option Ty → ℕ
count_of None = 0
count_of (Some t) = 1

-- the header is that of a class with this number
abbrev pub IsHeaderOf : Names → ℕ → Class → Header → Type 0
IsHeaderOf names own c header =
    HasPlaces header.params c.params 0
    × (header.name.now ≡ c.name.name)
    × (header.arity ≡ length c.params)
    × (header.class ≡ own)
    × (header.names.now ≡ names)
