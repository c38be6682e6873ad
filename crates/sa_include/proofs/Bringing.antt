-- What include clauses contribute.
use Rattle.std.proofs.Common.{◌≡◌, ℕ, ◌+◌, ◌<◌, ◌≤◌, Bool, true, List, [], ◌∷◌, Option, None, Some, length, flat_map, get_or, slice_get, take, take_all, refl, sym, ap, subst, ◌∙◌, ◌⊎◌, inl, inr, arith}
use Rattle.std.proofs.Math.Path.{fun_ext}
use Rattle.std.proofs.lemmas.List.Elements.{All-more, All-nil}
use Rattle.std.proofs.lemmas.Option.{slice_get_read, slice_get_within}
use Rattle.std.specs.List.{All}
use Rattle.std.specs.Prelude.{MatchOption, ⊤}
use Rattle.sa_ast.specs.declared.class.FeatureModifier.{FeatureModifier}
use Rattle.sa_ast.specs.declared.class.Class.{Class}
use Rattle.sa_ast.specs.declared.class.Feature.{Feature}
use Rattle.sa_ast.specs.declared.class.Include.{Include}
use Rattle.sa_ast.specs.declared.class.TypeParam.{TypeParam}
use Rattle.sa_ast.specs.declared.pos.Pos.{Pos}
use Rattle.sa_ast.specs.declared.ty.ModeTy.{ModeTy}
use Rattle.sa_ast.specs.declared.ty.Ty.{Ty}
use Rattle.sa_ast.specs.declared.ty.Ty.TheOpen.{Ty-F}
use Rattle.sa_ast.specs.declared.ty.Ty.TheVariants as ty
use Rattle.sa_ast.specs.declared.ty.Ty.TheViews.{out-Ty, out-roll-Ty}
use Rattle.sa_ast.specs.Types.{bare}
use Rattle.sa_subst.specs.Substitution.{given_for, substituted}
use Rattle.sa_subst.specs.Table.{IsTableFor, put_in, value_in}
use Rattle.sa_subst.specs.declared.sig.Sig.{Sig}
use Rattle.sa_subst.specs.declared.substitution.Substitution.{Substitution}
use Rattle.sa_include_conflicts.specs.Clashes.{NoneClash}
use Rattle.sa_include_conflicts.specs.IncludedFeatures.{HasSignatures, has_included}
use Rattle.sa_include_conflicts.specs.KnownSignatures.{signatures_of}
use Rattle.sa_include_conflicts.specs.declared.apart.KnownSignatures.{KnownSignatures}
use Rattle.sa_include_names.specs.declared.names.ClassNumbers.{ClassNumbers}
use Rattle.sa_include_names.specs.Includes.{number_named}
use Rattle.sa_include_names.specs.Names.{number_of}
use Rattle.sa_include_names.specs.Tables.{HasNumbers, number_in}
use Rattle.sa_include.specs.Flattened.{IsApart, is_immutable}
use Rattle.sa_include.specs.Included.{AreIncluded, BringsAll, IsInherited, given_in, given_level, included_name, put_by}

-- ---- the types that a clause gives

pub given-Named : (name : List ℕ) (given : List Ty) (pos : Pos) → given_in (ty.Named name given pos) ≡ given
unfolding given_in
given-Named name given pos = ap given_level (ap out-Ty (sym (ty.rolls-Named name given pos)) ∙ out-roll-Ty (Ty-F.Named name given pos))

pub given-Same : (pos : Pos) → given_in (ty.Same pos) ≡ []
unfolding given_in
given-Same pos = ap given_level (ap out-Ty (sym (ty.rolls-Same pos)) ∙ out-roll-Ty (Ty-F.Same pos))

pub given-Rout : (args : List ModeTy) (of : Option Ty) (pos : Pos) → given_in (ty.Rout args of pos) ≡ []
unfolding given_in
given-Rout args of pos = ap given_level (ap out-Ty (sym (ty.rolls-Rout args of pos)) ∙ out-roll-Ty (Ty-F.Rout args of pos))

pub given-Iter : (args : List ModeTy) (of : Option Ty) (pos : Pos) → given_in (ty.Iter args of pos) ≡ []
unfolding given_in
given-Iter args of pos = ap given_level (ap out-Ty (sym (ty.rolls-Iter args of pos)) ∙ out-roll-Ty (Ty-F.Iter args of pos))

pub ruleset givens = (given-Named, given-Same, given-Rout, given-Iter)

-- ---- one feature

module _ (changes : List FeatureModifier) (put : Ty → Ty) (immutable : Bool) (known : List Sig) (f : Feature) (found : Option (List ℕ)) (is : found ≡ included_name changes f.name.name) where
  brought_as : (o : Option (List ℕ)) → found ≡ o → MatchOption o ⊤ (λ name. has_included put name immutable known f ≡ true) → IsInherited changes put immutable known f
  brought_as o e = subst (λ p. MatchOption p ⊤ (λ name. has_included put name immutable known f ≡ true)) (sym e ∙ is)

  pub left_out : found ≡ None → IsInherited changes put immutable known f
  left_out none = brought_as None none tt

  pub is_there : (name : List ℕ) (has : Bool) → found ≡ Some name → has ≡ has_included put name immutable known f → has ≡ true → IsInherited changes put immutable known f
  is_there name has some has_is held = brought_as (Some name) some (sym has_is ∙ held)

pub ruleset features_brought = (left_out, is_there)

-- ---- one clause

pub clause_brings : (number : List ℕ → Option ℕ) (whole : List Class) (c : Class) (clause : Include) (place : ℕ) (included : Class) (by : Substitution) (params : List TypeParam) (given : List Ty) (same : Ty) (known : KnownSignatures) (changes : List FeatureModifier) (immutable : Bool) (features : List Feature) → number_named number (bare clause.ty) ≡ Some place → slice_get whole place ≡ Some included → IsTableFor params given same by → params ≡ included.params → given ≡ given_in clause.ty → same ≡ ty.Same c.name.pos → HasSignatures (is_immutable c.kind) c.features known → changes ≡ clause.changes → immutable ≡ is_immutable c.kind → features ≡ included.features → All (IsInherited changes (put_in by) immutable known.shapes.keys) features → BringsAll number whole c clause
clause_brings number whole c clause place included by params given same known changes immutable features names at table is_params is_given is_same signatures is_changes is_immutable_class is_features all = record {
  place = place;
  names = names;
  included = included;
  at = at;
  brings =
      subst (All (IsInherited clause.changes (put_by c included clause) (is_immutable c.kind) (flat_map (signatures_of (is_immutable c.kind)) c.features))) is_features
      (subst (λ ks. All (IsInherited clause.changes (put_by c included clause) (is_immutable c.kind) ks) features) signatures.keys
      (subst (λ b. All (IsInherited clause.changes (put_by c included clause) b known.shapes.keys) features) is_immutable_class
      (subst (λ put. All (IsInherited clause.changes put immutable known.shapes.keys) features) puts
      (subst (λ cs. All (IsInherited cs (put_in by) immutable known.shapes.keys) features) is_changes all))));
}
  where
    puts : put_in by ≡ put_by c included clause
    puts =
        ap (λ value. substituted value by.same.now) (fun_ext table.0) ∙ ap (substituted (given_for params given)) (table.1 ∙ is_same)
        ∙ ap (λ ps. substituted (given_for ps given) (ty.Same c.name.pos)) is_params
        ∙ ap (λ ts. substituted (given_for included.params ts) (ty.Same c.name.pos)) is_given

-- ---- all classes

-- the features of a class were checked, as those of one that is immutable or isn't
pub is_apart : (c : Class) (immutable : Bool) (features : List Feature) → immutable ≡ is_immutable c.kind → features ≡ c.features → NoneClash immutable features → IsApart c
is_apart c immutable features is_immutable_class is_features none =
    subst (λ b. NoneClash b c.features) is_immutable_class (subst (NoneClash immutable) is_features none)

-- no two features of a class up to one conflict, and each of its clauses contributes everything
pub record TriedUpTo (classes whole : List Class) (n : ℕ) : Type 0 where
  pub apart : All IsApart (take n whole)
  pub each : (place : ℕ) (written c : Class) → place < n → slice_get classes place ≡ Some written → slice_get whole place ≡ Some c → All (BringsAll (number_of classes) whole c) written.includes

pub none_tried : (classes whole : List Class) → TriedUpTo classes whole 0
none_tried classes whole = record { apart = All-nil IsApart; each = λ place written c lt. absurd (omega (arith, lt)) }

pub class_tried : (classes whole : List Class) (n : ℕ) (written made : Class) (numbers : ClassNumbers) (clauses : List Include) → n < length whole → made ≡ get_or whole n made → HasNumbers classes numbers → TriedUpTo classes whole n → slice_get classes n ≡ Some written → clauses ≡ written.includes → IsApart made → All (BringsAll (number_in numbers) whole made) clauses → TriedUpTo classes whole (n + 1)
class_tried classes whole n written made numbers clauses within is numbered so_far at is_clauses is_apart brings = record {
  apart = All-more IsApart whole n made within so_far.apart (subst IsApart is is_apart);
  each = λ place w c lt at_w at_c. by place w c at_w at_c (near place lt);
}
  where
    near : (place : ℕ) → place < n + 1 → (place < n) ⊎ (n ≡ place)
    near place h = grind (arith, h)

    here : All (BringsAll (number_of classes) whole made) written.includes
    here =
        subst (λ number. All (BringsAll number whole made) written.includes) (fun_ext numbered.each)
        (subst (All (BringsAll (number_in numbers) whole made)) is_clauses brings)

    by : (place : ℕ) (w c : Class) → slice_get classes place ≡ Some w → slice_get whole place ≡ Some c → (place < n) ⊎ (n ≡ place) → All (BringsAll (number_of classes) whole c) w.includes
    by place w c at_w at_c (inl lt) = so_far.each place w c lt at_w at_c
    by place w c at_w at_c (inr e) =
        subst (λ (d : Class). All (BringsAll (number_of classes) whole d) w.includes) (one (sym own ∙ ap (slice_get whole) e ∙ at_c))
        (subst (λ (v : Class). All (BringsAll (number_of classes) whole made) v.includes) (one (sym at ∙ ap (slice_get classes) e ∙ at_w)) here)
      where
        own : slice_get whole n ≡ Some made
        own = slice_get_read whole (length whole) n made refl within is

        one : {x y : Class} → Some x ≡ Some y → x ≡ y
        one q = cc

module _ (classes whole : List Class) (n : ℕ) (le : length whole ≤ n) (so_far : TriedUpTo classes whole n) where
  pub all_apart : All IsApart whole
  all_apart = subst (All IsApart) (take_all n whole le) so_far.apart

  pub all_included : AreIncluded classes whole
  all_included = record { each = λ place written c at at_c. so_far.each place written c (omega (arith, le, slice_get_within whole place c at_c)) at at_c }

pub ruleset all_classes = (none_tried, class_tried, all_apart, all_included)
