-- What a class without its includes has of the class as it is written.
use Rattle.std.specs.Prelude.{◌≡◌, ◌⊎◌, Bool, true, false, IsTrue, List, []}
use Rattle.std.specs.List.{All, AllZip, Contains}
use Rattle.sa_include_conflicts.specs.Clashes.{NoneClash}
use Rattle.sa_include_conflicts.specs.Stub.{is_stub_part, keeps_stub}
use Rattle.sa_ast.specs.declared.class.Class.{Class}
use Rattle.sa_ast.specs.declared.class.Feature.{Feature}
use Rattle.sa_ast.specs.declared.class.ClassKind.{ClassKind}
use Rattle.sa_ast.specs.declared.class.ClassKind.TheVariants.{Immutable}

abbrev pub is_immutable : ClassKind → Bool
is_immutable Immutable = true
is_immutable _ = false

-- a feature that is written is a stub, which may be replaced, or is itself among the features
abbrev pub Wins : List Feature → Feature → Type 0
Wins features f = IsTrue (is_stub_part f.part) ⊎ Contains features f

-- a class has no includes, the header of the class that is written, what that class writes, and no stub unless it is partial
pub record IsFlattened (written : Class) (flat : Class) : Type 0 where
  pub kind : flat.kind ≡ written.kind
  pub name : flat.name ≡ written.name
  pub params : flat.params ≡ written.params
  pub below : flat.below ≡ written.below
  pub above : flat.above ≡ written.above
  pub includes : flat.includes ≡ []
  pub wins : All (Wins flat.features) written.features
  pub no_stub : keeps_stub flat.kind flat.features ≡ false

-- one for one
abbrev pub AreFlattened : List Class → List Class → Type 0
AreFlattened written flat = AllZip IsFlattened written flat

-- no two features of a class conflict
abbrev pub IsApart : Class → Type 0
IsApart c = NoneClash (is_immutable c.kind) c.features
