-- The subtype test: which types the edges of a program answer to be subtypes of another.
use Rattle.std.specs.Prelude.{◌↔◌, ℕ, ◌||◌, Bool, false, IsTrue, List, Option}
use Rattle.std.specs.Option.{option_map_or}
use Rattle.sa_ast.specs.declared.class.FlatClass.{FlatClass}
use Rattle.sa_ast.specs.declared.ty.Ty.{Ty}
use Rattle.sa_ast.specs.Types.{BareTy, Named, Same, Rout, Iter, bare}
use Rattle.sa_ast.specs.TypeEquality.{same_type}
use Rattle.sa_subtypes.specs.declared.edges.SubtypeRelation.{SubtypeRelation}
use Rattle.sa_subtypes.specs.Bounds.{holds}
use Rattle.sa_subtypes.specs.Deciding.{found_between, types_in}
use Rattle.sa_hierarchy.specs.Hierarchies.{Tables, tables}
use Rattle.sa_unify.specs.Numbers.{kind_bare, number_in}
use Rattle.sa_subtypes.specs.Subtypes.{IsSubtype, is_immutable_kind, top}

module _ (edges : SubtypeRelation) where
  abbrev pub tables_in : Tables
  tables_in = tables edges.lineage

  -- the number of a class by its name
  abbrev pub class_in : List ℕ → Option ℕ
  class_in name = number_in edges.lineage.names.places name

  -- whether one or more edges lead from a type to another
  unfoldable pub leads_in : BareTy → BareTy → Bool
  leads_in (Named name args) (Named other above) = found_between tables_in (class_in name) (types_in args) (class_in other) (types_in above)
  leads_in (Named name args) Same = false
  leads_in (Named name args) (Rout others of) = false
  leads_in (Named name args) (Iter others of) = false
  leads_in Same t = false
  leads_in (Rout args of) t = false
  leads_in (Iter args of) t = false

  -- whether edges lead from a type to another, or they are the same
  unfoldable pub climbs_in : BareTy → BareTy → Bool
  climbs_in s t = same_type s t || leads_in s t

  -- whether a type is a supertype of every type
  abbrev pub tops_in : BareTy → Bool
  tops_in t = climbs_in top t

  -- whether a type is an immutable class
  abbrev pub immutable_in : BareTy → Bool
  immutable_in t = option_map_or is_immutable_kind (kind_bare edges.lineage.names t) false

-- whether the edges answer that a type is a subtype of another
abbrev pub is_subtype : SubtypeRelation → Ty → Ty → Bool
is_subtype edges s t = holds (tops_in edges) (climbs_in edges) (immutable_in edges) (bare s) (bare t) false

-- they answer so exactly if it is a subtype of the other in the program
pub record AreSubtypesOf (flat : FlatClass) (edges : SubtypeRelation) : Type 0 where
  pub exact : (s t : Ty) → IsTrue (is_subtype edges s t) ↔ IsSubtype flat s t
