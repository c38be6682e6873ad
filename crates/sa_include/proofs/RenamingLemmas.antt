-- The table of the renamings of an include clause.
use Rattle.std.proofs.Common.{◌≡◌, ℕ, ◌+◌, ◌<◌, ◌≤◌, Bool, true, false, cond, nat_eq, List, [], ◌∷◌, ◌++◌, Option, None, Some, length, get_or, slice_get, take, refl, sym, ap, subst, ◌∙◌}
use Rattle.std.proofs.lemmas.Bool.{false≢true, true≢false}
use Rattle.std.proofs.lemmas.List.{take_all, take_more}
use Rattle.std.proofs.lemmas.List.Folds.{find-append}
use Rattle.std.proofs.lemmas.Option.{slice_get_read}
use Rattle.std.specs.Cmp.Lexicographic.{pointwise, bytes_decides}
use Rattle.std.specs.Option.{option_and_then, option_or}
use Rattle.std.specs.Prelude.{is_some}
use Rattle.indexmap.specs.IndexMap.{Updates}
use Rattle.sa_ast.specs.declared.class.FeatureModifier.{FeatureModifier}
use Rattle.sa_include.specs.declared.renamings.Renaming.{Renaming}
use Rattle.sa_include.specs.Changes.{AddsChange, HasChanges, place_in}
use Rattle.sa_include.specs.Included.{change_of, name_after, included_name}

-- ---- one renaming

module _ (name : List ℕ) (place : ℕ) (old : Renaming) (found : Option ℕ) (is : found ≡ place_in old name) where
  pub was_there : (x : ℕ) → found ≡ Some x → AddsChange name place old old
  was_there x some = record {
    own = λ none. absurd (true≢false (ap is_some (sym some ∙ is) ∙ none));
    kept = λ had other. refl;
  }

  pub is_new : (new : Renaming) → found ≡ None → Updates (pointwise nat_eq) old.first new.first name (Some place) → AddsChange name place old new
  is_new new none updates = record {
    own = λ had other. updates.0 other;
    kept = λ had. absurd (false≢true (ap is_some (sym none ∙ is) ∙ had));
  }

pub ruleset one_added = (was_there, is_new)

-- ---- the renamings up to an index

pub record HasChangesUpTo (changes : List FeatureModifier) (n : ℕ) (renaming : Renaming) : Type 0 where
  pub found : (name : List ℕ) → option_and_then (slice_get changes) (place_in renaming name) ≡ change_of (take n changes) name
  pub known : (name : List ℕ) → is_some (place_in renaming name) ≡ is_some (change_of (take n changes) name)

pub no_changes : (changes : List FeatureModifier) (renaming : Renaming) → ((name : List ℕ) → place_in renaming name ≡ None) → HasChangesUpTo changes 0 renaming
no_changes changes renaming none = record {
  found = λ name. ap (option_and_then (slice_get changes)) (none name);
  known = λ name. ap is_some (none name);
}

module _ {A : Type 0} where
  or_none : (o : Option A) → option_or o None ≡ o
  or_none None = refl
  or_none (Some x) = refl

  or_some : (o p : Option A) → is_some o ≡ true → option_or o p ≡ o
  or_some None p h = absurd (false≢true h)
  or_some (Some x) p h = refl

  is_none : (o : Option A) → is_some o ≡ false → o ≡ None
  is_none None h = refl
  is_none (Some x) h = absurd (true≢false h)

module _ (changes : List FeatureModifier) (n : ℕ) (change : FeatureModifier) (old new : Renaming) (within : n < length changes) (is : change ≡ get_or changes n change) (so_far : HasChangesUpTo changes n old) (adds : AddsChange change.from.name n old new) where
  at : slice_get changes n ≡ Some change
  at = slice_get_read changes (length changes) n change refl within is

  abbrev before : List ℕ → Option FeatureModifier
  before other = change_of (take n changes) other

  next : (other : List ℕ) → change_of (take (n + 1) changes) other ≡ option_or (before other) (cond (pointwise nat_eq change.from.name other) (Some change) None)
  next other =
      ap (λ cs. change_of cs other) (take_more changes n change within ∙ ap (λ c. take n changes ++ c ∷ []) (sym is))
      ∙ find-append (λ (c : FeatureModifier). pointwise nat_eq c.from.name other) (take n changes) (change ∷ [])

  -- the name of the renaming has the same entry as the other name
  same_entry : (other : List ℕ) → pointwise nat_eq change.from.name other ≡ true → is_some (before other) ≡ is_some (place_in old change.from.name)
  same_entry other e = sym (so_far.known other) ∙ ap (λ name. is_some (place_in old name)) (sym ((bytes_decides change.from.name other).0 e))

  abbrev Goal : List ℕ → Type 0
  Goal other =
      (option_and_then (slice_get changes) (place_in new other) ≡ change_of (take (n + 1) changes) other)
      × (is_some (place_in new other) ≡ is_some (change_of (take (n + 1) changes) other))

  unchanged : (other : List ℕ) → place_in new other ≡ place_in old other → change_of (take (n + 1) changes) other ≡ before other → Goal other
  unchanged other kept same =
      (ap (option_and_then (slice_get changes)) kept ∙ so_far.found other ∙ sym same, ap is_some kept ∙ so_far.known other ∙ sym (ap is_some same))

  other_name : (other : List ℕ) → pointwise nat_eq change.from.name other ≡ false → change_of (take (n + 1) changes) other ≡ before other
  other_name other e = next other ∙ ap (λ b. option_or (before other) (cond b (Some change) None)) e ∙ or_none (before other)

  both : (other : List ℕ) → Goal other
  both other = by (is_some (place_in old change.from.name)) (pointwise nat_eq change.from.name other) refl refl
    where
      by : (had same : Bool) → is_some (place_in old change.from.name) ≡ had → pointwise nat_eq change.from.name other ≡ same → Goal other
      by true true h e = unchanged other (adds.kept h other) (next other ∙ or_some (before other) (cond (pointwise nat_eq change.from.name other) (Some change) None) (same_entry other e ∙ h))
      by true false h e = unchanged other (adds.kept h other) (other_name other e)
      by false false h e = unchanged other (adds.own h other ∙ ap (λ b. cond b (Some n) (place_in old other)) e) (other_name other e)
      by false true h e = (ap (option_and_then (slice_get changes)) place ∙ at ∙ sym its, ap is_some place ∙ sym (ap is_some its))
        where
          place : place_in new other ≡ Some n
          place = adds.own h other ∙ ap (λ b. cond b (Some n) (place_in old other)) e

          its : change_of (take (n + 1) changes) other ≡ Some change
          its =
              next other ∙ ap (λ b. option_or (before other) (cond b (Some change) None)) e
              ∙ ap (λ o. option_or o (Some change)) (is_none (before other) (same_entry other e ∙ h))

  pub change_more : HasChangesUpTo changes (n + 1) new
  change_more = record { found = λ name. (both name).0; known = λ name. (both name).1 }

pub all_changes : (changes : List FeatureModifier) (n : ℕ) (renaming : Renaming) → HasChangesUpTo changes n renaming → length changes ≤ n → HasChanges changes renaming
all_changes changes n renaming upto le = record { found = λ name. upto.found name ∙ ap (λ cs. change_of cs name) (take_all n changes le) }

pub ruleset changes_added = (no_changes, change_more, all_changes)

-- ---- the name of a feature that is included

module _ (changes : List FeatureModifier) (renaming : Renaming) (name : List ℕ) (found : Option ℕ) (has : HasChanges changes renaming) (is : found ≡ place_in renaming name) where
  -- the renaming that the table has
  change_is : (o : Option ℕ) → found ≡ o → change_of changes name ≡ option_and_then (slice_get changes) o
  change_is o e = sym (has.found name) ∙ ap (option_and_then (slice_get changes)) (sym is ∙ e)

  pub no_change : found ≡ None → Some name ≡ included_name changes name
  no_change none = sym (ap (name_after name) (change_is None none))

  pub no_change_there : (place : ℕ) → found ≡ Some place → slice_get changes place ≡ None → Some name ≡ included_name changes name
  no_change_there place some none = sym (ap (name_after name) (change_is (Some place) some ∙ none))

  pub changed : (place : ℕ) (change : FeatureModifier) (to : Option (List ℕ)) → found ≡ Some place → slice_get changes place ≡ Some change → change.to ≡ to → to ≡ included_name changes name
  changed place change to some at is_to = sym is_to ∙ sym (ap (name_after name) (change_is (Some place) some ∙ at))

pub ruleset names = (no_change, no_change_there, changed)
