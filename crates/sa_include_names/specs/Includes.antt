-- Which classes include which, and which have the array part by their includes.
use Rattle.std.specs.Prelude.{◌≡◌, ◌⊎◌, ◌↔◌, ◌≤◌, Bool, true, false, ℕ, List, Option, None, Some, Contains}
use Rattle.std.specs.Prelude.{codes, cond, count_by, slice_get, take}
use Rattle.std.specs.List.{slice_index_or}
use Rattle.std.specs.Option.{option_map_or}
use Rattle.sa_ast.specs.declared.class.Class.{Class}
use Rattle.sa_ast.specs.declared.class.Include.{Include}
use Rattle.sa_ast.specs.Types.{BareTy, Named, bare}
use Rattle.sa_graph.specs.Paths.{HasPath}
use Rattle.sa_include_names.specs.Names.{hides, number_of}

-- the class that a type of an include clause names, which is none if a parameter has the name
abbrev pub number_included : List Class → Class → BareTy → Option ℕ
number_included classes c (Named name given) = cond (hides c.params name) None (number_of classes name)
number_included classes c other = None

-- a class includes another, by their numbers
pub record DoesInclude (classes : List Class) (from to : ℕ) : Type 0 where
  pub class : Class
  pub at : slice_get classes from ≡ Some class
  pub clause : Include
  pub has : Contains class.includes clause
  pub names : number_included classes class (bare clause.ty) ≡ Some to

-- a class includes itself, by itself or by others
abbrev pub IncludesItself : List Class → ℕ → Type 0
IncludesItself classes number = HasPath (DoesInclude classes) number number

-- `AREF`, the class that has the array part
abbrev pub array_name : List ℕ
array_name = codes "AREF"

-- a class is that one, or includes it, by itself or by others
abbrev pub HasArrayPart : List Class → ℕ → Type 0
HasArrayPart classes number =
    (array : ℕ) × (number_of classes array_name ≡ Some array)
    × ((number ≡ array) ⊎ HasPath (DoesInclude classes) number array)

abbrev pub is_set : List Bool → ℕ → Bool
is_set marks number = slice_index_or marks number false

-- the classes with an array part are marked
pub record AreArrays (classes : List Class) (marks : List Bool) : Type 0 where
  pub exactly : (number : ℕ) → (is_set marks number ≡ true) ↔ HasArrayPart classes number

-- ---- include clauses with an array part, where the classes that have it are marked

-- the class that the type of an include clause names, in a class no parameter of which hides it
abbrev pub number_named : (List ℕ → Option ℕ) → BareTy → Option ℕ
number_named number (Named name given) = number name
number_named number other = None

abbrev pub brings_array : (List ℕ → Option ℕ) → List Bool → Include → Bool
brings_array number marks clause = option_map_or (is_set marks) (number_named number (bare clause.ty)) false

-- the clause at an index passes a test, and one before it does
pub record IsSecond (test : Include → Bool) (includes : List Include) (place : ℕ) : Type 0 where
  pub clause : Include
  pub at : slice_get includes place ≡ Some clause
  pub passes : test clause ≡ true
  pub before : count_by test (take place includes) ≡ 1

-- it is the second of these clauses that includes an array part
pub record IsSecondArray (classes : List Class) (includes : List Include) (place : ℕ) : Type 0 where
  pub arrays : List Bool
  pub marked : AreArrays classes arrays
  pub second : IsSecond (brings_array (number_of classes) arrays) includes place

-- one of these clauses includes an array part at most
pub record HasOneArray (classes : List Class) (includes : List Include) : Type 0 where
  pub arrays : List Bool
  pub marked : AreArrays classes arrays
  pub one : count_by (brings_array (number_of classes) arrays) includes ≤ 1
