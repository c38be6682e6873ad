-- The refusals of a program's classes for their includes.
use Rattle.std.specs.Prelude.{◌≡◌, ◌⊎◌, ◌||◌, ◌<◌, Bool, ℕ, List, [], Option, None, Some, Contains, IfSome, MatchOption, is_some, slice_get}
use Rattle.std.specs.Option.{option_map, option_or}
use Rattle.sa_ast.specs.declared.class.FeatureModifier.{FeatureModifier}
use Rattle.sa_ast.specs.declared.class.Class.{Class}
use Rattle.sa_ast.specs.declared.class.Feature.{Feature}
use Rattle.sa_ast.specs.declared.class.Include.{Include}
use Rattle.sa_ast.specs.declared.pos.Pos.{Pos}
use Rattle.sa_ast.specs.declared.refusal.Refusal.{Refusal}
use Rattle.sa_ast.specs.declared.rule.Rule.{Rule}
use Rattle.sa_ast.specs.declared.rule.Rule.TheVariants as rule
use Rattle.sa_ast.specs.declared.ty.ModeTy.{ModeTy}
use Rattle.sa_ast.specs.declared.ty.Ty.{Ty}
use Rattle.sa_ast.specs.declared.ty.Ty.TheOpen.{Ty-F}
use Rattle.sa_ast.specs.declared.ty.Ty.TheViews.{out-Ty}
use Rattle.sa_include.specs.Firsts.{do_brought_clash, left_stub, staying_features, written_conflict}
use Rattle.sa_include_conflicts.specs.declared.features.ClassFeatures.{ClassFeatures}
use Rattle.sa_include_names.specs.Includes.{HasOneArray, IsSecondArray}
use Rattle.sa_include_names.specs.Refusals.{AreIncludesRight, RefusesNames}
use Rattle.sa_include.specs.Flattened.{is_immutable}
use Rattle.sa_include.specs.declared.clause.CollectedFeatures.{CollectedFeatures}

-- ---- one class

-- a refusal by this rule, at the name of the feature
abbrev pub at_name : Rule → Option Feature → Option Refusal
at_name by found = option_map (λ f. record { rule = by; pos = f.name.pos }) found

-- the position of a type
abbrev pub pos_level : Ty-F Ty ModeTy → Pos
pos_level (Ty-F.Named name given pos) = pos
pos_level (Ty-F.Same pos) = pos
pos_level (Ty-F.Rout args of pos) = pos
pos_level (Ty-F.Iter args of pos) = pos

unfoldable pub type_pos : Ty → Pos
type_pos t = pos_level (out-Ty t)

-- E16, at the name of one of these renamings
pub record IsOfChange (changes : List FeatureModifier) (refusal : Refusal) : Type 0 where
  pub change : FeatureModifier
  pub has : Contains changes change
  pub is : refusal ≡ record { rule = rule.NoSuchIncludedFeature; pos = change.from.pos }

-- of one of the clauses of a class
pub record IsOfClause (clauses : List Include) (refusal : Refusal) : Type 0 where
  pub clause : Include
  pub has : Contains clauses clause
  pub change : IsOfChange clause.changes refusal

-- E17, at the type of one of these clauses
pub record IsOfType (clauses : List Include) (refusal : Refusal) : Type 0 where
  pub clause : Include
  pub has : Contains clauses clause
  pub is : refusal ≡ record { rule = rule.IncludedFeaturesConflict; pos = type_pos clause.ty }

-- these are the features of a class, of which its includes contribute none if it has no includes
pub record HasFeatures (c : Class) (features : ClassFeatures) : Type 0 where
  pub no_includes : c.includes ≡ [] → features.inherited.now ≡ []
  pub immutable : features.immutable ≡ is_immutable c.kind
  pub written : features.written.now ≡ c.features

-- what a class includes, and the refusal of one of its renamings
pub record IsGathered (c : Class) (gathered : CollectedFeatures) : Type 0 where
  pub no_includes : c.includes ≡ [] → gathered.features.items ≡ []
  pub of_change : IfSome gathered.refusal (IsOfClause c.includes)

-- the first refusal of a class whose includes contribute these features: that of a renaming (E16); else E11; else that of a clause (E17);
-- else E22
abbrev pub first_refusal : Class → List Feature → Option Refusal → Option Refusal → Option Refusal
first_refusal c inherited changes clauses =
    option_or changes
    (option_or (at_name rule.FeaturesConflict (written_conflict (is_immutable c.kind) inherited c.features))
    (option_or clauses
    (at_name rule.StubLeft (left_stub c.kind (staying_features (is_immutable c.kind) inherited c.features)))))

-- E17 comes exactly if two of the included features conflict, as reported, or two clauses include an array part
pub record IsClauseRefusal (classes : List Class) (c : Class) (conflict : Bool) (refusal : Option Refusal) : Type 0 where
  pub second : Option ℕ
  pub is_second : MatchOption second (HasOneArray classes c.includes) (IsSecondArray classes c.includes)
  pub due : is_some refusal ≡ (conflict || is_some second)
  pub of_type : IfSome refusal (IsOfType c.includes)

-- this is the first refusal of a class of these, or it has none
pub record IsVerdict (classes : List Class) (c : Class) (found : Option Refusal) : Type 0 where
  -- its includes contribute these features
  pub inherited : List Feature
  pub no_includes : c.includes ≡ [] → inherited ≡ []
  pub changes : Option Refusal
  pub of_change : IfSome changes (IsOfClause c.includes)
  pub clauses : Option Refusal
  pub of_clause : changes ≡ None → written_conflict (is_immutable c.kind) inherited c.features ≡ None
      → IsClauseRefusal classes c (do_brought_clash (is_immutable c.kind) inherited c.features inherited) clauses
  pub is : found ≡ first_refusal c inherited changes clauses

-- ---- all classes

-- so it is of the class with this number
abbrev pub IsVerdictAt : List Class → ℕ → Option Refusal → Type 0
IsVerdictAt classes number found = (c : Class) → slice_get classes number ≡ Some c → IsVerdict classes c found

-- none of the first classes is refused
pub record AreAccepted (classes : List Class) (count : ℕ) : Type 0 where
  pub each : (place : ℕ) (c : Class) → place < count → slice_get classes place ≡ Some c → IsVerdict classes c None

-- it is the first refusal of the first class that has one
pub record IsFirstRefusal (classes : List Class) (refusal : Refusal) : Type 0 where
  pub place : ℕ
  pub class : Class
  pub at : slice_get classes place ≡ Some class
  pub refused : IsVerdict classes class (Some refusal)
  pub first : AreAccepted classes place

-- nothing of names and of includes is refused then
pub record RefusesClass (classes : List Class) (refusal : Refusal) : Type 0 where
  pub right : AreIncludesRight classes
  pub first : IsFirstRefusal classes refusal

abbrev pub RefusesIncludes : List Class → Refusal → Type 0
RefusesIncludes classes refusal = RefusesNames classes refusal ⊎ RefusesClass classes refusal
