-- What a class has of what its include clauses contribute.
use Rattle.std.specs.Prelude.{◌≡◌, Bool, true, ℕ, List, [], Option, None, Some, MatchOption, ⊤, find, flat_map, nat_eq, slice_get}
use Rattle.std.specs.Cmp.Lexicographic.{pointwise}
use Rattle.std.specs.List.{All}
use Rattle.sa_ast.specs.declared.class.FeatureModifier.{FeatureModifier}
use Rattle.sa_ast.specs.declared.class.Class.{Class}
use Rattle.sa_ast.specs.declared.class.Feature.{Feature}
use Rattle.sa_ast.specs.declared.class.Include.{Include}
use Rattle.sa_ast.specs.declared.ty.ModeTy.{ModeTy}
use Rattle.sa_ast.specs.declared.ty.Ty.{Ty}
use Rattle.sa_ast.specs.declared.ty.Ty.TheOpen.{Ty-F}
use Rattle.sa_ast.specs.declared.ty.Ty.TheVariants as ty
use Rattle.sa_ast.specs.declared.ty.Ty.TheViews.{out-Ty}
use Rattle.sa_ast.specs.Types.{bare}
use Rattle.sa_subst.specs.Substitution.{given_for, substituted}
use Rattle.sa_subst.specs.declared.sig.Sig.{Sig}
use Rattle.sa_include_conflicts.specs.IncludedFeatures.{has_included}
use Rattle.sa_include_conflicts.specs.KnownSignatures.{signatures_of}
use Rattle.sa_include_names.specs.Includes.{number_named}
use Rattle.sa_include_names.specs.Names.{number_of}
use Rattle.sa_include.specs.Flattened.{is_immutable}

-- ---- the name under which a feature is included

-- the first renaming of a name
abbrev pub change_of : List FeatureModifier → List ℕ → Option FeatureModifier
change_of changes name = find (λ c. pointwise nat_eq c.from.name name) changes

abbrev pub name_after : List ℕ → Option FeatureModifier → Option (List ℕ)
name_after name None = Some name
name_after name (Some change) = change.to

-- none where it is left out
abbrev pub included_name : List FeatureModifier → List ℕ → Option (List ℕ)
included_name changes name = name_after name (change_of changes name)

-- ---- the types that are substituted

abbrev pub given_level : Ty-F Ty ModeTy → List Ty
given_level (Ty-F.Named name given pos) = given
given_level _ = []

-- the types that an include clause of this type gives
unfoldable pub given_in : Ty → List Ty
given_in t = given_level (out-Ty t)

-- they are substituted for the parameters of the included class, and SAME stays SAME
abbrev pub put_by : Class → Class → Include → Ty → Ty
put_by c included clause = substituted (given_for included.params (given_in clause.ty)) (ty.Same c.name.pos)

-- ---- what a class has

-- by these renamings a feature is left out, or its name and its types change so and one of these signatures conflicts with it, as those
-- of the feature itself do
abbrev pub IsInherited : List FeatureModifier → (Ty → Ty) → Bool → List Sig → Feature → Type 0
IsInherited changes put immutable known f =
    MatchOption (included_name changes f.name.name) ⊤ (λ name. has_included put name immutable known f ≡ true)

-- so is each feature of the class that a clause of c names, where classes have these numbers: it is in c, or one that conflicts with it
pub record BringsAll (number : List ℕ → Option ℕ) (whole : List Class) (c : Class) (clause : Include) : Type 0 where
  pub place : ℕ
  pub names : number_named number (bare clause.ty) ≡ Some place
  pub included : Class
  pub at : slice_get whole place ≡ Some included
  pub brings :
      All (IsInherited clause.changes (put_by c included clause) (is_immutable c.kind)
      (flat_map (signatures_of (is_immutable c.kind)) c.features))
      included.features

-- each clause of each class contributes everything
pub record AreIncluded (classes whole : List Class) : Type 0 where
  pub each : (place : ℕ) (written c : Class) → slice_get classes place ≡ Some written → slice_get whole place ≡ Some c
      → All (BringsAll (number_of classes) whole c) written.includes
