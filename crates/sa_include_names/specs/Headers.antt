-- The types that aren't allowed where they are in a header or an include clause: their positions, in source order, that of a type before
-- those of the types inside it.
use Rattle.std.specs.Prelude.{◌&&◌, ◌||◌, ◌==◌, Bool, true, false, not, ℕ, List, [], ◌∷◌, ◌++◌, Option, None, Some}
use Rattle.std.specs.Prelude.{codes, cond, flat_map, length, nat_eq, slice_get}
use Rattle.std.specs.Cmp.Lexicographic.{pointwise}
use Rattle.std.specs.List.{list_any}
use Rattle.std.specs.Option.{option_map_or}
use Rattle.sa_ast.specs.declared.class.Class.{Class}
use Rattle.sa_ast.specs.declared.class.ClassKind.{ClassKind}
use Rattle.sa_ast.specs.declared.class.ClassKind.TheVariants as kind
use Rattle.sa_ast.specs.declared.class.TypeParam.{TypeParam}
use Rattle.sa_ast.specs.declared.pos.Pos.{Pos}
use Rattle.sa_ast.specs.declared.ty.ModeTy.{ModeTy}
use Rattle.sa_ast.specs.declared.ty.Ty.{Ty}
use Rattle.sa_ast.specs.declared.ty.Ty.TheOpen.{Ty-F, ModeTy-F}
use Rattle.sa_ast.specs.declared.ty.Ty.TheFolds.{fold-Ty, fold-ModeTy}
use Rattle.sa_ast.specs.declared.ty.Ty.TheViews.{out-Ty}
use Rattle.sa_include_names.specs.Includes.{is_set}
use Rattle.sa_include_names.specs.Names.{hides, number_of}

-- ---- types, by a test whether a name, alone or with parameters, is allowed

-- the position, unless what is there is allowed
abbrev pub unless : Bool → Pos → List Pos
unless may pos = cond may [] (pos ∷ [])

abbrev pub joined : List (List Pos) → List Pos
joined lists = flat_map (λ list. list) lists

abbrev pub joined_result : Option (List Pos) → List Pos
joined_result None = []
joined_result (Some list) = list

module _ (may : List ℕ → Bool → Bool) where
  -- one level, where the types inside are done already
  abbrev pub misused_level : Ty-F (List Pos) (List Pos) → List Pos
  misused_level (Ty-F.Named name given pos) = unless (may name (length given == 0)) pos ++ joined given
  misused_level (Ty-F.Same pos) = []
  misused_level (Ty-F.Rout args of pos) = joined args ++ joined_result of
  misused_level (Ty-F.Iter args of pos) = joined args ++ joined_result of

  abbrev pub misused_arg_level : ModeTy-F (List Pos) (List Pos) → List Pos
  misused_arg_level arg = arg.ty

  -- a type, and those inside it
  unfoldable pub misused : Ty → List Pos
  misused = fold-Ty (List Pos) (List Pos) misused_level misused_arg_level

  unfoldable pub misused_arg : ModeTy → List Pos
  misused_arg = fold-ModeTy (List Pos) (List Pos) misused_level misused_arg_level

  abbrev pub misused_types : List Ty → List Pos
  misused_types types = flat_map misused types

  abbrev pub misused_option : Option Ty → List Pos
  misused_option of = option_map_or misused of []

-- ---- which names are allowed

abbrev pub is_no_partial : ClassKind → Bool
is_no_partial kind.Partial = false
is_no_partial _ = true

abbrev pub is_no_abstract : ClassKind → Bool
is_no_abstract kind.Abstract = false
is_no_abstract _ = true

abbrev pub is_no_immutable : ClassKind → Bool
is_no_immutable kind.Immutable = false
is_no_immutable _ = true

-- the classes of the prelude that are never included
abbrev pub never_included : List (List ℕ)
never_included = codes "BOOL" ∷ codes "INT" ∷ codes "CHAR" ∷ codes "STR" ∷ codes "OUT" ∷ codes "IN" ∷ codes "SYS" ∷ []

unfoldable pub is_never_included : List ℕ → Bool
is_never_included name = list_any (pointwise nat_eq name) never_included

-- in a class of this kind, where the names of classes have these numbers, the classes with an array part are marked, and some names
-- are those of parameters
module _ (classes : List Class) (number : List ℕ → Option ℕ) (arrays : List Bool) (including : ClassKind) (hidden : List ℕ → Bool) where
  -- the number of the class that a name is, if it is that of no parameter
  abbrev pub number_seen : List ℕ → Option ℕ
  number_seen name = cond (hidden name) None (number name)

  -- the class with a number has the property
  abbrev pub class_passes : (ℕ → Class → Bool) → Option ℕ → Bool
  class_passes test None = false
  class_passes test (Some k) = option_map_or (test k) (slice_get classes k) false

  -- a name is allowed as a type: it is a parameter, or the name of a class that isn't partial
  abbrev pub may_occur : List ℕ → Bool → Bool
  may_occur name alone = alone && hidden name || class_passes (λ k c. is_no_partial c.kind) (number_seen name)

  -- a class may be included: it isn't abstract, and none of those; and an immutable class includes none with an array part
  abbrev pub passes_as_included : List ℕ → ℕ → Class → Bool
  passes_as_included name k c =
      is_no_abstract c.kind && not (is_never_included name) && (is_no_immutable including || not (is_set arrays k))

  unfoldable pub may_include : List ℕ → Bool
  may_include name = class_passes (passes_as_included name) (number_seen name)

  -- ---- types by where they are

  -- a type after `>` is no bound type and no parameter
  abbrev pub misused_above_level : Ty → Ty-F Ty ModeTy → List Pos
  misused_above_level t (Ty-F.Named name given pos) = unless (not ((length given == 0) && hidden name)) pos ++ misused may_occur t
  misused_above_level t (Ty-F.Same pos) = []
  misused_above_level t (Ty-F.Rout args of pos) = pos ∷ []
  misused_above_level t (Ty-F.Iter args of pos) = pos ∷ []

  unfoldable pub misused_above : Ty → List Pos
  misused_above t = misused_above_level t (out-Ty t)

  -- the type of an include clause
  abbrev pub misused_include_level : Ty-F Ty ModeTy → List Pos
  misused_include_level (Ty-F.Named name given pos) = unless (may_include name) pos ++ misused_types may_occur given
  misused_include_level (Ty-F.Same pos) = pos ∷ []
  misused_include_level (Ty-F.Rout args of pos) = pos ∷ []
  misused_include_level (Ty-F.Iter args of pos) = pos ∷ []

  unfoldable pub misused_include : Ty → List Pos
  misused_include t = misused_include_level (out-Ty t)

  -- in the bounds, after `<`, after `>` and in the include clauses of a class
  unfoldable pub misused_in : Class → List Pos
  misused_in c =
      flat_map (λ p. misused_option may_occur p.bound) c.params ++ misused_types may_occur c.below
      ++ flat_map misused_above c.above ++ flat_map (λ i. misused_include i.ty) c.includes

-- in a class of a program, where the classes with an array part are marked
abbrev pub misused_class : List Class → List Bool → Class → List Pos
misused_class classes arrays c = misused_in classes (number_of classes) arrays c.kind (hides c.params) c

-- in all of them
unfoldable pub misused_names : List Class → List Bool → List Pos
misused_names classes arrays = flat_map (misused_class classes arrays) classes
