-- The numbers of classes: the number of a class is its index, and its name is that of the first class of the name.
use Rattle.std.specs.Prelude.{◌≡◌, ℕ, ◌+◌, List, [], ◌∷◌, Option, None, Some, cond, drop, length, map, nat_eq, slice_get}
use Rattle.std.specs.Cmp.Lexicographic.{pointwise}
use Rattle.std.specs.HashMap.{HashMap, get_by}
use Rattle.std.specs.Option.{option_map, option_and_then, option_map_or}
use Rattle.std.specs.declared.vec.Vec.{Vec}
use Rattle.sa_ast.specs.declared.class.Class.{Class}
use Rattle.sa_ast.specs.declared.class.ClassKind.{ClassKind}
use Rattle.sa_ast.specs.declared.class.ClassKind.TheVariants as kind
use Rattle.sa_ast.specs.Types.{BareTy, Named, Same, Rout, Iter}
use Rattle.sa_unify.specs.declared.names.Names.{Names}
use Rattle.sa_unify.specs.declared.names.ClassRow.{ClassRow}

-- the index of the first class with a name, in a list that begins at index i
abbrev pub class_place : List Class → ℕ → List ℕ → Option ℕ
class_place [] i name = None
class_place (c ∷ more) i name = cond (pointwise nat_eq c.name.name name) (Some i) (class_place more (i + 1) name)

-- the number of a name in a table
abbrev pub number_in : {A S : Type 0} → HashMap (Vec ℕ A) ℕ S → List ℕ → Option ℕ
number_in table name = get_by (λ key. pointwise nat_eq name key.items) table

-- a table has the numbers of the classes from an index on
abbrev pub HasNumbers : {A S : Type 0} → HashMap (Vec ℕ A) ℕ S → List Class → ℕ → Type 0
HasNumbers table classes from = (name : List ℕ) → number_in table name ≡ class_place (drop from classes) from name

abbrev pub row_of : Class → ClassRow
row_of c = record { kind = c.kind; arity = length c.params }

-- the names of these classes, with the kind and the arity of each class
abbrev pub AreNamesOf : List Class → Names → Type 0
AreNamesOf classes names =
    HasNumbers names.places classes 0 × (names.names.items ≡ map (λ c. c.name.name) classes) × (names.rows.items ≡ map row_of classes)

-- the kind of the class of a name, and of the class that a type is
abbrev pub kind_of_name : Names → List ℕ → Option ClassKind
kind_of_name names name = option_map (λ r. r.kind) (option_and_then (slice_get names.rows.items) (number_in names.places name))

abbrev pub kind_bare : Names → BareTy → Option ClassKind
kind_bare names (Named name params) = kind_of_name names name
kind_bare names Same = None
kind_bare names (Rout args of) = Some kind.Reference
kind_bare names (Iter args of) = Some kind.Reference

-- the name of a class, and how many parameters it has, by its number
abbrev pub name_of : Names → ℕ → List ℕ
name_of names number = option_map_or (λ name. name) (slice_get names.names.items number) []

abbrev pub arity_of : Names → ℕ → ℕ
arity_of names number = option_map_or (λ row. row.arity) (slice_get names.rows.items number) 0
