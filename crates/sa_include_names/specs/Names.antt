-- The names of classes and of their parameters.
use Rattle.std.specs.Prelude.{◌≡◌, ◌≢◌, ◌&&◌, Bool, ℕ, suc, List, [], ◌∷◌, Option, None, Some, cond, nat_eq, slice_get, take}
use Rattle.std.specs.Cmp.Lexicographic.{pointwise}
use Rattle.std.specs.List.{list_any}
use Rattle.sa_ast.specs.declared.class.Class.{Class}
use Rattle.sa_ast.specs.declared.class.TypeParam.{TypeParam}

-- the index of the first class with a name, in a list whose first class has this index
abbrev pub number_from : ℕ → List Class → List ℕ → Option ℕ
number_from first [] name = None
number_from first (c ∷ more) name = cond (pointwise nat_eq c.name.name name) (Some first) (number_from (suc first) more name)

-- the number of the class with a name, which is its index
abbrev pub number_of : List Class → List ℕ → Option ℕ
number_of classes name = number_from 0 classes name

-- no class has the name of an earlier one
pub record DifferInName (classes : List Class) : Type 0 where
  pub differ : (place : ℕ) (c : Class) → slice_get classes place ≡ Some c → number_of (take place classes) c.name.name ≡ None

-- the class at an index has the name of an earlier one, and none before it does
pub record RepeatsName (classes : List Class) (place : ℕ) (c : Class) : Type 0 where
  pub at : slice_get classes place ≡ Some c
  pub repeats : number_of (take place classes) c.name.name ≢ None
  pub first : DifferInName (take place classes)

-- whether a parameter has the name: it hides the class of that name
abbrev pub hides : List TypeParam → List ℕ → Bool
hides params name = list_any (λ p. pointwise nat_eq p.name.name name) params
