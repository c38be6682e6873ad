-- Stubs.
use Rattle.std.specs.Prelude.{◌≡◌, ◌&&◌, ◌<◌, ℕ, Bool, true, false, not, List, Some, slice_get}
use Rattle.std.specs.List.{list_any}
use Rattle.sa_ast.specs.declared.class.Feature.{Feature}
use Rattle.sa_ast.specs.declared.class.ClassKind.{ClassKind}
use Rattle.sa_ast.specs.declared.class.ClassKind.TheVariants.{Partial}
use Rattle.sa_ast.specs.declared.class.FeatureBody.{FeatureBody}
use Rattle.sa_ast.specs.declared.class.FeatureBody.TheVariants.{Stub}
use Rattle.sa_ast.specs.declared.pos.Pos.{Pos}
use Rattle.sa_include_conflicts.specs.Sharing.{is_set}

-- whether a feature is a stub
abbrev pub is_stub_part : FeatureBody → Bool
is_stub_part Stub = true
is_stub_part _ = false

abbrev pub has_stub : List Feature → Bool
has_stub features = list_any (λ f. is_stub_part f.part) features

abbrev pub is_partial : ClassKind → Bool
is_partial Partial = true
is_partial _ = false

-- a class that isn't partial has a stub
abbrev pub keeps_stub : ClassKind → List Feature → Bool
keeps_stub kind features = not (is_partial kind) && has_stub features

-- ---- the first stub that stays

module _ (features : List Feature) (stays : List Bool) where
  -- a stub stays at an index
  pub record IsStubLeft (place : ℕ) (f : Feature) : Type 0 where
    pub at : slice_get features place ≡ Some f
    pub stub : is_stub_part f.part ≡ true
    pub kept : is_set stays place ≡ true

  pub record NoStubBefore (bound : ℕ) : Type 0 where
    pub none : (place : ℕ) (f : Feature) → place < bound → ¬ IsStubLeft place f

-- none stays, unless the class is partial
pub record NoStubLeft (kind : ClassKind) (features : List Feature) (stays : List Bool) : Type 0 where
  pub none : is_partial kind ≡ false → (place : ℕ) (f : Feature) → ¬ IsStubLeft features stays place f

-- the class isn't partial, and the first one that stays is named at this position
pub record IsFirstStub (kind : ClassKind) (features : List Feature) (stays : List Bool) (pos : Pos) : Type 0 where
  pub whole : is_partial kind ≡ false
  pub place : ℕ
  pub feature : Feature
  pub left : IsStubLeft features stays place feature
  pub first : NoStubBefore features stays place
  pub named : pos ≡ feature.name.pos
