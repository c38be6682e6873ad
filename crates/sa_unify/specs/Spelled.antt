-- Types as terms: how a type is spelled as nodes, how a type of a class's header is,
-- the type that such a type is at an instance, and the type that is read from nodes.
use Rattle.std.specs.Prelude.{ℕ, zero, suc, ◌+◌, List, [], ◌∷◌, ◌++◌, Option, None, Some, take, drop}
use Rattle.sa_ast.specs.declared.ty.Mode.{Mode}
use Rattle.sa_ast.specs.declared.ty.Mode.TheVariants.{In}
use Rattle.sa_ast.specs.Types.{BareTy, Named, Same, Rout, Iter, BareTys, no_types, type}
use Rattle.sa_ast.specs.Types.{BareArgs, no_args, arg, BareResult, no_result, gives}
use Rattle.sa_unify.specs.declared.pattern.Node.{Node}
use Rattle.sa_unify.specs.declared.pattern.Node.TheVariants as node
use Rattle.sa_unify.specs.Terms.{held}

-- ---- how many terms the parts take

abbrev pub count_types : BareTys → ℕ
count_types no_types = 0
count_types (type t more) = suc (count_types more)

-- for each argument its mode and its type
abbrev pub count_args : BareArgs → ℕ
count_args no_args = 0
count_args (arg m t more) = suc (suc (count_args more))

abbrev pub count_result : BareResult → ℕ
count_result no_result = 0
count_result (gives t) = 1

-- ---- a type in the header of a class: `place` is the number of a parameter, `own` the class with its parameters

-- the variables up to a number, in order
abbrev pub variables : ℕ → List Node
variables zero = []
variables (suc n) = variables n ++ node.Variable n ∷ []

-- a class at its parameters
abbrev pub own_nodes : List ℕ → ℕ → List Node
own_nodes name arity = node.Class name arity ∷ variables arity

-- a name without arguments, with the number of the parameter that it is, if it is one
abbrev pub alone : Option ℕ → List ℕ → List Node
alone None name = node.Class name 0 ∷ []
alone (Some k) name = node.Variable k ∷ []

module _ (place : List ℕ → Option ℕ) (own : List Node) where
  abbrev mutual
    pub written : BareTy → List Node
    written (Named name no_types) = alone (place name) name
    written (Named name (type t more)) = node.Class name (suc (count_types more)) ∷ written t ++ written_all more
    written Same = own
    written (Rout args of) = node.Routine (count_args args + count_result of) ∷ written_args args ++ written_result of
    written (Iter args of) = node.Iter (count_args args + count_result of) ∷ written_args args ++ written_result of

    pub written_all : BareTys → List Node
    written_all no_types = []
    written_all (type t more) = written t ++ written_all more

    pub written_args : BareArgs → List Node
    written_args no_args = []
    written_args (arg m t more) = node.Passed m ∷ written t ++ written_args more

    pub written_result : BareResult → List Node
    written_result no_result = []
    written_result (gives t) = written t

-- where nothing is a parameter
abbrev pub nowhere : List ℕ → Option ℕ
nowhere name = None

-- SAME outside of a header, spelled as nothing that a header spells
abbrev pub same_nodes : List Node
same_nodes = node.List 0 ∷ []

-- a type that has no parameters
abbrev pub spelled : BareTy → List Node
spelled = written nowhere same_nodes

abbrev pub spelled_all : BareTys → List Node
spelled_all = written_all nowhere same_nodes

-- ---- a type of a header at an instance: `value` is what a name without arguments stands for, `same` the class at the instance

abbrev pub occurrence : Option BareTy → List ℕ → BareTy
occurrence None name = Named name no_types
occurrence (Some t) name = t

module _ (value : List ℕ → Option BareTy) (same : BareTy) where
  abbrev mutual
    pub instance : BareTy → BareTy
    instance (Named name no_types) = occurrence (value name) name
    instance (Named name (type t more)) = Named name (type (instance t) (instance_all more))
    instance Same = same
    instance (Rout args of) = Rout (instance_args args) (instance_result of)
    instance (Iter args of) = Iter (instance_args args) (instance_result of)

    pub instance_all : BareTys → BareTys
    instance_all no_types = no_types
    instance_all (type t more) = type (instance t) (instance_all more)

    pub instance_args : BareArgs → BareArgs
    instance_args no_args = no_args
    instance_args (arg m t more) = arg m (instance t) (instance_args more)

    pub instance_result : BareResult → BareResult
    instance_result no_result = no_result
    instance_result (gives t) = gives (instance t)

-- ---- reading: the item of each term; one that fits nowhere is read as SAME

pub data Item : Type 0 where
  a_type : BareTy → Item
  a_mode : Mode → Item

abbrev pub type_of : Item → BareTy
type_of (a_type t) = t
type_of (a_mode m) = Same

abbrev pub mode_of : Item → Mode
mode_of (a_type t) = In
mode_of (a_mode m) = m

abbrev pub types_of : List Item → BareTys
types_of [] = no_types
types_of (x ∷ more) = type (type_of x) (types_of more)

-- in pairs; one that is left over is the result
abbrev pub args_of : List Item → BareArgs
args_of [] = no_args
args_of (x ∷ []) = no_args
args_of (x ∷ y ∷ more) = arg (mode_of x) (type_of y) (args_of more)

abbrev pub result_of : List Item → BareResult
result_of [] = no_result
result_of (x ∷ []) = gives (type_of x)
result_of (x ∷ y ∷ more) = result_of more

abbrev pub made : Node → List Item → Item
made (node.Variable number) items = a_type Same
made (node.Class name count) items = a_type (Named name (types_of items))
made (node.Routine count) items = a_type (Rout (args_of items) (result_of items))
made (node.Iter count) items = a_type (Iter (args_of items) (result_of items))
made (node.Passed mode) items = a_mode mode
made (node.List count) items = a_type Same

-- the items of n terms at the head of the nodes
abbrev pub read : List Node → ℕ → List Item
read [] n = []
read (a ∷ more) zero = []
read (a ∷ more) (suc n) = made a (take (held a) (read more (held a + n))) ∷ drop (held a) (read more (held a + n))

abbrev pub first_item : List Item → Item
first_item [] = a_type Same
first_item (x ∷ more) = x

-- the type that a term is
abbrev pub read_type : List Node → BareTy
read_type term = type_of (first_item (read term 1))

-- the types that n terms are
abbrev pub read_types : List Node → ℕ → BareTys
read_types terms count = types_of (read terms count)
