-- The table of the renamings of an include clause.
use Rattle.std.specs.Prelude.{◌≡◌, true, false, ℕ, List, Option, None, Some, cond, is_some, nat_eq, slice_get}
use Rattle.std.specs.Cmp.Lexicographic.{pointwise}
use Rattle.std.specs.Option.{option_and_then}
use Rattle.indexmap.specs.IndexMap.{get}
use Rattle.sa_ast.specs.declared.class.FeatureModifier.{FeatureModifier}
use Rattle.sa_include.specs.declared.renamings.Renaming.{Renaming}
use Rattle.sa_include.specs.Included.{change_of}

abbrev pub place_in : Renaming → List ℕ → Option ℕ
place_in renaming name = get (pointwise nat_eq) renaming.first name

-- the table has the index of the first of these renamings of each name
pub record HasChanges (changes : List FeatureModifier) (renaming : Renaming) : Type 0 where
  pub found : (name : List ℕ) → option_and_then (slice_get changes) (place_in renaming name) ≡ change_of changes name

-- a name has this index if it had none
pub record AddsChange (name : List ℕ) (place : ℕ) (old new : Renaming) : Type 0 where
  pub own : is_some (place_in old name) ≡ false → (other : List ℕ)
      → place_in new other ≡ cond (pointwise nat_eq name other) (Some place) (place_in old other)
  pub kept : is_some (place_in old name) ≡ true → (other : List ℕ) → place_in new other ≡ place_in old other
