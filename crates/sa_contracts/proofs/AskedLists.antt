-- The checks that must be quiet, feature by feature from the last one on.
use Rattle.std.proofs.Common.{◌≡◌, ℕ, ◌+◌, cond, List, [], ◌∷◌, ◌++◌, length, Some, refl, sym, ap, ◌∙◌, append_assoc, zero-add, arith}
use Rattle.std.proofs.lemmas.List.{append-nil}
use Rattle.indexmap.specs.IndexMap.{Updates}
use Rattle.sa_ast.specs.declared.class.Class.{Class}
use Rattle.sa_ast.specs.declared.class.Feature.{Feature}
use Rattle.sa_ast.specs.declared.pos.Pos.{Pos}
use Rattle.sa_contracts.specs.declared.checks.BodyChecks.{BodyChecks}
use Rattle.sa_contracts.specs.declared.checks.Checks.{Checks}
use Rattle.sa_contracts.specs.AskedChecks.{Asked, NamedChecks, asked, asked_by, asked_first, feature_checks, features_checks, same_pos, woven_checks}
use Rattle.sa_contracts.specs.WovenClasses.{FeatureDuties}

-- one more feature in the map
pub asked-more : (before after : Checks) (name : Pos) (checks : BodyChecks) → Updates same_pos before.by_name after.by_name name (Some checks) → asked_by after ≡ asked_first (record { name = name; checks = checks } ∷ []) (asked_by before)
asked-more before after name checks added = λ i pos. added.0 pos i

-- a list after another
asked-append : (list following : List NamedChecks) (others : Asked) → asked_first (list ++ following) others ≡ asked_first list (asked_first following others)
asked-append [] following others = refl
asked-append (f ∷ more) following others =
    let step : Asked → Asked = λ a name. cond (same_pos f.name name) (Some f.checks) (a name) in
    ap step (asked-append more following others)

module _ (keeps : FeatureDuties) where
  features-snoc : (class from : ℕ) (features : List Feature) (f : Feature) → features_checks keeps class from (features ++ f ∷ []) ≡ features_checks keeps class from features ++ feature_checks f (keeps class (from + length features) f)
  features-snoc class from [] f =
      let same : from ≡ from + 0 = omega arith in
      append-nil (feature_checks f (keeps class from f)) ∙ ap (λ n. feature_checks f (keeps class n f)) same
  features-snoc class from (first ∷ more) f =
      let same : (from + 1) + length more ≡ from + length (first ∷ more) = omega arith in
      ap (λ list. feature_checks first (keeps class from first) ++ list) (features-snoc class (from + 1) more f ∙ ap (λ n. features_checks keeps class (from + 1) more ++ feature_checks f (keeps class n f)) same)
      ∙ sym (append_assoc (feature_checks first (keeps class from first)) (features_checks keeps class (from + 1) more) (feature_checks f (keeps class (from + length (first ∷ more)) f)))

  classes-snoc : (from : ℕ) (classes : List Class) (c : Class) → woven_checks keeps from (classes ++ c ∷ []) ≡ woven_checks keeps from classes ++ features_checks keeps (from + length classes) 0 c.features
  classes-snoc from [] c =
      let same : from ≡ from + 0 = omega arith in
      append-nil (features_checks keeps from 0 c.features) ∙ ap (λ n. features_checks keeps n 0 c.features) same
  classes-snoc from (first ∷ more) c =
      let same : (from + 1) + length more ≡ from + length (first ∷ more) = omega arith in
      ap (λ list. features_checks keeps from 0 first.features ++ list) (classes-snoc (from + 1) more c ∙ ap (λ n. woven_checks keeps (from + 1) more ++ features_checks keeps n 0 c.features) same)
      ∙ sym (append_assoc (features_checks keeps from 0 first.features) (woven_checks keeps (from + 1) more) (features_checks keeps (from + length (first ∷ more)) 0 c.features))

  -- the checks of the last feature come before those that are collected already
  pub features-asked : (class : ℕ) (rest shorter : List Feature) (f : Feature) (before after : Asked) → rest ≡ shorter ++ f ∷ [] → after ≡ asked_first (feature_checks f (keeps class (length shorter) f)) before → asked_first (features_checks keeps class 0 rest) before ≡ asked_first (features_checks keeps class 0 shorter) after
  features-asked class rest shorter f before after popped is =
      ap (λ (list : List Feature). asked_first (features_checks keeps class 0 list) before) popped
      ∙ ap (λ (list : List NamedChecks). asked_first list before) (features-snoc class 0 shorter f)
      ∙ ap (λ n. asked_first (features_checks keeps class 0 shorter ++ feature_checks f (keeps class n f)) before) (zero-add (length shorter))
      ∙ asked-append (features_checks keeps class 0 shorter) (feature_checks f (keeps class (length shorter) f)) before
      ∙ ap (asked_first (features_checks keeps class 0 shorter)) (sym is)

  pub classes-asked : (rest shorter : List Class) (c : Class) (before after : Asked) → rest ≡ shorter ++ c ∷ [] → after ≡ asked_first (features_checks keeps (length shorter) 0 c.features) before → asked_first (woven_checks keeps 0 rest) before ≡ asked_first (woven_checks keeps 0 shorter) after
  classes-asked rest shorter c before after popped is =
      ap (λ (list : List Class). asked_first (woven_checks keeps 0 list) before) popped
      ∙ ap (λ (list : List NamedChecks). asked_first list before) (classes-snoc 0 shorter c)
      ∙ ap (λ n. asked_first (woven_checks keeps 0 shorter ++ features_checks keeps n 0 c.features) before) (zero-add (length shorter))
      ∙ asked-append (woven_checks keeps 0 shorter) (features_checks keeps (length shorter) 0 c.features) before
      ∙ ap (asked_first (woven_checks keeps 0 shorter)) (sym is)

-- two tables that agree on each feature ask for the same checks
pub same-asked : (keeps others : FeatureDuties) → ((class feature : ℕ) (f : Feature) → keeps class feature f ≡ others class feature f) → (classes : List Class) → asked (woven_checks keeps 0 classes) ≡ asked (woven_checks others 0 classes)
same-asked keeps others same classes =
    let all : keeps ≡ others = λ i class feature f. same class feature f i in
    ap (λ (k : FeatureDuties). asked (woven_checks k 0 classes)) all

pub ruleset more = (asked-more)

pub ruleset popped = (features-asked, classes-asked)
