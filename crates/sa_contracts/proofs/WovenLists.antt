-- Classes and features that are woven from the last one on.
use Rattle.std.proofs.Common.{◌≡◌, ℕ, ◌+◌, List, [], ◌∷◌, ◌++◌, length, reverse, refl, sym, ap, ◌∙◌, append_assoc, zero-add, arith}
use Rattle.std.proofs.lemmas.List.{reverse-append}
use Rattle.sa_ast.specs.declared.class.Class.{Class}
use Rattle.sa_ast.specs.declared.class.Feature.{Feature}
use Rattle.sa_contracts.specs.WovenClasses.{FeatureDuties, woven_feature, woven_features, woven_class, woven_classes}

module _ (keeps : FeatureDuties) where
  features-snoc : (class from : ℕ) (features : List Feature) (f : Feature) → woven_features keeps class from (features ++ f ∷ []) ≡ woven_features keeps class from features ++ woven_feature f (keeps class (from + length features) f) ∷ []
  features-snoc class from [] f =
      let same : from ≡ from + 0 = omega arith in
      ap (λ n. woven_feature f (keeps class n f) ∷ []) same
  features-snoc class from (first ∷ more) f =
      let same : (from + 1) + length more ≡ from + length (first ∷ more) = omega arith in
      ap (λ list. woven_feature first (keeps class from first) ∷ list) (features-snoc class (from + 1) more f ∙ ap (λ n. woven_features keeps class (from + 1) more ++ woven_feature f (keeps class n f) ∷ []) same)

  classes-snoc : (from : ℕ) (classes : List Class) (c : Class) → woven_classes keeps from (classes ++ c ∷ []) ≡ woven_classes keeps from classes ++ woven_class keeps (from + length classes) c ∷ []
  classes-snoc from [] c =
      let same : from ≡ from + 0 = omega arith in
      ap (λ n. woven_class keeps n c ∷ []) same
  classes-snoc from (first ∷ more) c =
      let same : (from + 1) + length more ≡ from + length (first ∷ more) = omega arith in
      ap (λ list. woven_class keeps from first ∷ list) (classes-snoc (from + 1) more c ∙ ap (λ n. woven_classes keeps (from + 1) more ++ woven_class keeps n c ∷ []) same)

  -- one more feature before those that are done, of which the last is the first
  pub features-popped : (class : ℕ) (rest shorter : List Feature) (f woven : Feature) (done after : List Feature) → rest ≡ shorter ++ f ∷ [] → woven ≡ woven_feature f (keeps class (length shorter) f) → after ≡ done ++ woven ∷ [] → woven_features keeps class 0 rest ++ reverse done ≡ woven_features keeps class 0 shorter ++ reverse after
  features-popped class rest shorter f woven done after popped is put =
      let at_end : woven_features keeps class 0 rest ≡ woven_features keeps class 0 shorter ++ woven ∷ [] =
      ap (woven_features keeps class 0) popped
      ∙ features-snoc class 0 shorter f
      ∙ ap (λ n. woven_features keeps class 0 shorter ++ woven_feature f (keeps class n f) ∷ []) (zero-add (length shorter))
      ∙ ap (λ x. woven_features keeps class 0 shorter ++ x ∷ []) (sym is) in
      let in_front : reverse after ≡ woven ∷ reverse done = ap reverse put ∙ reverse-append done (woven ∷ []) in
      ap (λ list. list ++ reverse done) at_end
      ∙ append_assoc (woven_features keeps class 0 shorter) (woven ∷ []) (reverse done)
      ∙ ap (λ list. woven_features keeps class 0 shorter ++ list) (sym in_front)

  pub classes-popped : (rest shorter : List Class) (c woven : Class) (done after : List Class) → rest ≡ shorter ++ c ∷ [] → woven ≡ woven_class keeps (length shorter) c → after ≡ done ++ woven ∷ [] → woven_classes keeps 0 rest ++ reverse done ≡ woven_classes keeps 0 shorter ++ reverse after
  classes-popped rest shorter c woven done after popped is put =
      let at_end : woven_classes keeps 0 rest ≡ woven_classes keeps 0 shorter ++ woven ∷ [] =
      ap (woven_classes keeps 0) popped
      ∙ classes-snoc 0 shorter c
      ∙ ap (λ n. woven_classes keeps 0 shorter ++ woven_class keeps n c ∷ []) (zero-add (length shorter))
      ∙ ap (λ x. woven_classes keeps 0 shorter ++ x ∷ []) (sym is) in
      let in_front : reverse after ≡ woven ∷ reverse done = ap reverse put ∙ reverse-append done (woven ∷ []) in
      ap (λ list. list ++ reverse done) at_end
      ∙ append_assoc (woven_classes keeps 0 shorter) (woven ∷ []) (reverse done)
      ∙ ap (λ list. woven_classes keeps 0 shorter ++ list) (sym in_front)

-- two tables that agree on each feature weave classes alike
pub same-classes : (keeps others : FeatureDuties) → ((class feature : ℕ) (f : Feature) → keeps class feature f ≡ others class feature f) → (classes : List Class) → woven_classes keeps 0 classes ≡ woven_classes others 0 classes
same-classes keeps others same classes =
    let all : keeps ≡ others = λ i class feature f. same class feature f i in
    ap (λ (k : FeatureDuties). woven_classes k 0 classes) all

pub ruleset popped = (features-popped, classes-popped)
