-- Groups of signatures, by which it is found which features conflict.
use Rattle.std.specs.Prelude.{◌≡◌, ◌⊎◌, ◌↔◌, ◌||◌, ◌<◌, ◌≤◌, ◌++◌, Bool, true, false, ℕ, List, Option, Some, length, slice_get}
use Rattle.std.specs.List.{slice_index_or}
use Rattle.std.specs.Option.{option_map_or}
use Rattle.sa_ast.specs.declared.class.Feature.{Feature}
use Rattle.sa_include_conflicts.specs.declared.conflicts.Conflicts.{Conflicts}
use Rattle.sa_include_conflicts.specs.declared.features.ClassFeatures.{ClassFeatures}
use Rattle.sa_include_conflicts.specs.declared.groups.Groups.{Groups}
use Rattle.sa_include_conflicts.specs.declared.groups.Visited.{Visited}
use Rattle.sa_include_conflicts.specs.Clashes.{do_clash}

-- the features of a class, in their order
abbrev pub all_features : ClassFeatures → List Feature
all_features features = features.inherited.now ++ features.written.now

-- a feature stays
abbrev pub is_set : List Bool → ℕ → Bool
is_set marks place = slice_index_or marks place false

-- ---- groups

-- a group is one of those of a feature
abbrev pub HasGroup : Groups → ℕ → Type 0
HasGroup groups n = (groups.own ≡ n) ⊎ (groups.writer ≡ Some n)

-- two features have a group in common
abbrev pub HaveCommon : Groups → Groups → Type 0
HaveCommon f g = (n : ℕ) × HasGroup f n × HasGroup g n

abbrev pub groups_at : Conflicts → ℕ → Option Groups
groups_at conflicts place = slice_get conflicts.of.items place

-- the features at two indices have a group in common exactly if they conflict
pub record AreGrouped (features : ClassFeatures) (conflicts : Conflicts) : Type 0 where
  pub count : length conflicts.of.items ≡ length (all_features features)
  pub exactly : (p q : ℕ) (f g : Feature) (m n : Groups)
      → slice_get (all_features features) p ≡ Some f → slice_get (all_features features) q ≡ Some g
      → groups_at conflicts p ≡ Some m → groups_at conflicts q ≡ Some n
      → HaveCommon m n ↔ (do_clash features.immutable f g ≡ true)

-- ---- the first conflict

module _ (conflicts : Conflicts) (stays : List Bool) where
  -- the feature at an index stays, and has these groups
  pub record StaysWith (place : ℕ) (groups : Groups) : Type 0 where
    pub at : groups_at conflicts place ≡ Some groups
    pub kept : is_set stays place ≡ true

  -- it has a group in common with one that stays at an index before, from `from` on
  pub record IsInConflict (from place : ℕ) : Type 0 where
    pub groups : Groups
    pub here : StaysWith place groups
    pub earlier : ℕ
    pub after : from ≤ earlier
    pub before : earlier < place
    pub other : Groups
    pub there : StaysWith earlier other
    pub common : HaveCommon other groups

  -- none is, from an index up to another
  pub record NoConflict (from to : ℕ) : Type 0 where
    pub none : (place : ℕ) → place < to → ¬ IsInConflict from place

  -- the first that is
  pub record IsFirstConflict (from to place : ℕ) : Type 0 where
    pub within : place < to
    pub conflict : IsInConflict from place
    pub first : NoConflict from place

-- ---- marks at groups

abbrev pub is_marked : Visited → ℕ → Bool
is_marked marks group = slice_index_or marks.set.items group false

pub record NoneMarked (marks : Visited) : Type 0 where
  pub none : (group : ℕ) → is_marked marks group ≡ false

-- whether a group of a feature is marked
abbrev pub has_marked : Groups → Visited → Bool
has_marked groups marks = is_marked marks groups.own || option_map_or (is_marked marks) groups.writer false

-- this group is marked too
pub record AddsGroup (group : ℕ) (old new : Visited) : Type 0 where
  pub exactly : (n : ℕ) → (is_marked new n ≡ true) ↔ ((is_marked old n ≡ true) ⊎ (group ≡ n))

-- those of a feature are
pub record AddsGroups (groups : Groups) (old new : Visited) : Type 0 where
  pub exactly : (n : ℕ) → (is_marked new n ≡ true) ↔ ((is_marked old n ≡ true) ⊎ HasGroup groups n)

-- they are marked too if the test is true
pub record AddsWhere (holds : Bool) (groups : Groups) (old new : Visited) : Type 0 where
  pub added : holds ≡ true → AddsGroups groups old new
  pub kept : holds ≡ false → new ≡ old
