-- Which features of a class stay. A feature that a class writes replaces one that it includes, and one that is no stub replaces a
-- stub, if the two conflict. One that is itself replaced replaces nothing.
use Rattle.std.specs.Prelude.{◌≡◌, ◌&&◌, ◌||◌, ◌++◌, Bool, not, ℕ, List, Some, cond, filter, map, slice_get}
use Rattle.std.specs.List.{list_any}
use Rattle.sa_ast.specs.declared.class.Feature.{Feature}
use Rattle.sa_include_conflicts.specs.Clashes.{do_clash}
use Rattle.sa_include_conflicts.specs.Sharing.{all_features, groups_at, has_marked}
use Rattle.sa_include_conflicts.specs.Stub.{is_stub_part}
use Rattle.sa_include_conflicts.specs.declared.conflicts.Conflicts.{Conflicts}
use Rattle.sa_include_conflicts.specs.declared.features.ClassFeatures.{ClassFeatures}
use Rattle.sa_include_conflicts.specs.declared.groups.Groups.{Groups}
use Rattle.sa_include_conflicts.specs.declared.groups.Visited.{Visited}
use Rattle.sa_include_conflicts.specs.declared.replacement.ReplacementMarks.{ReplacementMarks}

abbrev pub is_body : Feature → Bool
is_body f = not (is_stub_part f.part)

module _ (immutable : Bool) where
  -- whether a feature conflicts with one of these
  unfoldable pub meets_any : List Feature → Feature → Bool
  meets_any others f = list_any (λ g. do_clash immutable g f) others

  -- ---- the features of a class that replace others: those that it includes and those that it writes are given

  abbrev pub written_bodies : List Feature → List Feature
  written_bodies written = filter is_body written

  abbrev pub is_inherited_body : List Feature → Feature → Bool
  is_inherited_body written f = is_body f && not (meets_any (written_bodies written) f)

  abbrev pub inherited_bodies : List Feature → List Feature → List Feature
  inherited_bodies inherited written = filter (is_inherited_body written) inherited

  -- whether a feature conflicts with one that is no stub and stays
  abbrev pub meets_body : List Feature → List Feature → Feature → Bool
  meets_body inherited written f = meets_any (written_bodies written) f || meets_any (inherited_bodies inherited written) f

  abbrev pub is_written_stub : List Feature → List Feature → Feature → Bool
  is_written_stub inherited written f = is_stub_part f.part && not (meets_body inherited written f)

  abbrev pub written_stubs : List Feature → List Feature → List Feature
  written_stubs inherited written = filter (is_written_stub inherited written) written

  -- ---- which stay

  unfoldable pub stays_written : List Feature → List Feature → Feature → Bool
  stays_written inherited written f = is_body f || not (meets_body inherited written f)

  unfoldable pub stays_inherited : List Feature → List Feature → Feature → Bool
  stays_inherited inherited written f =
      cond (is_stub_part f.part)
      (not (meets_body inherited written f || meets_any (written_stubs inherited written) f))
      (not (meets_any (written_bodies written) f))

-- for each feature of a class whether it stays
abbrev pub all_stay : ClassFeatures → List Bool
all_stay features =
    map (stays_inherited features.immutable features.inherited.now features.written.now) features.inherited.now
    ++ map (stays_written features.immutable features.inherited.now features.written.now) features.written.now

-- ---- marks at the groups of the features that replace others

-- marks are at the groups of these features: by its groups it is known of a feature of the class whether it conflicts with one of them
pub record AreMarked (features : ClassFeatures) (conflicts : Conflicts) (marked : List Feature) (marks : Visited) : Type 0 where
  pub exactly : (place : ℕ) (f : Feature) (groups : Groups) → slice_get (all_features features) place ≡ Some f
      → groups_at conflicts place ≡ Some groups → has_marked groups marks ≡ meets_any features.immutable marked f

-- so are those of the written bodies, of the included ones that stay and of the written stubs that do
pub record AreReplacing (features : ClassFeatures) (conflicts : Conflicts) (replacing : ReplacementMarks) : Type 0 where
  pub written_bodies :
      AreMarked features conflicts (written_bodies features.immutable features.written.now) replacing.written_bodies
  pub inherited_bodies :
      AreMarked features conflicts (inherited_bodies features.immutable features.inherited.now features.written.now) replacing.inherited_bodies
  pub written_stubs :
      AreMarked features conflicts (written_stubs features.immutable features.inherited.now features.written.now) replacing.written_stubs

-- a feature with these groups conflicts with a body that stays
abbrev pub body_marked : Visited → Visited → Groups → Bool
body_marked written inherited groups = has_marked groups written || has_marked groups inherited

abbrev pub inherited_kept : ReplacementMarks → Feature → Groups → Bool
inherited_kept r f groups =
    cond (is_stub_part f.part)
    (not (body_marked r.written_bodies r.inherited_bodies groups || has_marked groups r.written_stubs))
    (not (has_marked groups r.written_bodies))

abbrev pub written_kept : ReplacementMarks → Feature → Groups → Bool
written_kept r f groups = is_body f || not (body_marked r.written_bodies r.inherited_bodies groups)
