-- Types after `<`, each of which has to be an abstract class.
use Rattle.std.specs.Prelude.{Bool, true, false, ℕ, List, [], ◌∷◌, Option, cond, flat_map}
use Rattle.std.specs.Option.{option_map_or}
use Rattle.sa_ast.specs.declared.class.Class.{Class}
use Rattle.sa_ast.specs.declared.class.ClassKind.{ClassKind}
use Rattle.sa_ast.specs.declared.class.ClassKind.TheVariants.{Abstract}
use Rattle.sa_ast.specs.declared.pos.Pos.{Pos}
use Rattle.sa_ast.specs.declared.ty.ModeTy.{ModeTy}
use Rattle.sa_ast.specs.declared.ty.Ty.{Ty}
use Rattle.sa_ast.specs.declared.ty.Ty.TheOpen.{Ty-F}
use Rattle.sa_ast.specs.declared.ty.Ty.TheViews.{out-Ty}
use Rattle.sa_ast.specs.Types.{BareTy, Named, bare}

-- the position of a type
abbrev pub position_level : Ty-F Ty ModeTy → Pos
position_level (Ty-F.Named name given pos) = pos
position_level (Ty-F.Same pos) = pos
position_level (Ty-F.Rout args of pos) = pos
position_level (Ty-F.Iter args of pos) = pos

unfoldable pub position_of : Ty → Pos
position_of t = position_level (out-Ty t)

abbrev pub is_abstract_kind : ClassKind → Bool
is_abstract_kind Abstract = true
is_abstract_kind _ = false

-- if it is known of what kind the class of a name is
module _ (kind : List ℕ → Option ClassKind) where
  -- whether a type is an abstract class
  abbrev pub is_abstract_class : BareTy → Bool
  is_abstract_class (Named name given) = option_map_or is_abstract_kind (kind name) false
  is_abstract_class _ = false

  abbrev pub misplaced_type : Ty → List Pos
  misplaced_type t = cond (is_abstract_class (bare t)) [] (position_of t ∷ [])

  -- the positions of the types after `<` that are none, in source order
  abbrev pub misplaced : List Class → List Pos
  misplaced classes = flat_map (λ c. flat_map misplaced_type c.below) classes
