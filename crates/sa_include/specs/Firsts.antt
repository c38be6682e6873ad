-- The first conflict and the first stub among the features of a class that stay.
use Rattle.std.specs.Prelude.{◌||◌, ◌++◌, Bool, false, List, [], ◌∷◌, Option, None, Some, cond, filter, find}
use Rattle.std.specs.List.{list_any}
use Rattle.sa_ast.specs.declared.class.Feature.{Feature}
use Rattle.sa_ast.specs.declared.class.ClassKind.{ClassKind}
use Rattle.sa_include_conflicts.specs.Clashes.{do_clash}
use Rattle.sa_include_conflicts.specs.Staying.{stays_inherited, stays_written}
use Rattle.sa_include_conflicts.specs.Stub.{is_partial, is_stub_part}

-- ---- the element with which a list that is traversed from its beginning first passes a test

module _ {A : Type 0} (test : List A → Bool) where
  -- after the elements that were seen already
  abbrev pub first_following : List A → List A → Option A
  first_following seen [] = None
  first_following seen (x ∷ more) = cond (test (seen ++ x ∷ [])) (Some x) (first_following (seen ++ x ∷ []) more)

  unfoldable pub first_with : List A → Option A
  first_with xs = first_following [] xs

-- ---- conflicts

module _ (immutable : Bool) where
  -- whether two of these features conflict
  abbrev pub do_any_clash : List Feature → Bool
  do_any_clash [] = false
  do_any_clash (f ∷ more) = list_any (do_clash immutable f) more || do_any_clash more

  -- a class has the first of these lists by its includes, and writes the second
  module _ (inherited written : List Feature) where
    -- whether two of these included features stay and conflict
    abbrev pub do_brought_clash : List Feature → Bool
    do_brought_clash features = do_any_clash (filter (stays_inherited immutable inherited written) features)

    abbrev pub do_written_clash : List Feature → Bool
    do_written_clash features = do_any_clash (filter (stays_written immutable inherited written) features)

    -- the first written feature that stays and conflicts with an earlier one that stays
    abbrev pub written_conflict : Option Feature
    written_conflict = first_with do_written_clash written

    -- ---- what stays

    abbrev pub staying_features : List Feature
    staying_features = filter (stays_inherited immutable inherited written) inherited ++ filter (stays_written immutable inherited written) written

-- the first stub of these features, in a class that isn't partial
abbrev pub left_stub : ClassKind → List Feature → Option Feature
left_stub kind features = cond (is_partial kind) None (find (λ f. is_stub_part f.part) features)
