-- The facts of the classes of a program while their includes are resolved, each after those that it includes.
use Rattle.std.specs.Prelude.{◌≡◌, ◌<◌, ◌≤◌, true, false, ℕ, List, None, Some, slice_get}
use Rattle.sa_ast.specs.declared.class.Class.{Class}
use Rattle.sa_ast.specs.declared.refusal.Refusal.{Refusal}
use Rattle.sa_include.specs.Refusals.{AreAccepted, IsVerdict}
use Rattle.sa_include.specs.declared.resolved.Flattened.{Flattened}
use Rattle.sa_include.specs.declared.resolved.IncludeProgram.{IncludeProgram}
use Rattle.sa_include_names.specs.Includes.{AreArrays}
use Rattle.sa_include_names.specs.Tables.{HasNumbers}

-- the includes of a program are those of its classes
pub record KnowsIncludes (program : IncludeProgram) : Type 0 where
  pub numbers : HasNumbers program.classes.now program.includes.now.numbers
  pub arrays : AreArrays program.classes.now program.includes.now.arrays.items

-- none is resolved yet
pub record AreUndone (resolved : List Flattened) : Type 0 where
  pub each : (place : ℕ) (f : Flattened) → slice_get resolved place ≡ Some f → f.done ≡ false

-- each that is has its first refusal
pub record AreResolved (classes : List Class) (resolved : List Flattened) : Type 0 where
  pub each : (place : ℕ) (c : Class) (f : Flattened) → slice_get classes place ≡ Some c → slice_get resolved place ≡ Some f
      → f.done ≡ true → IsVerdict classes c f.refusal

-- and none of the first ones is refused
pub record IsGoneThrough (classes : List Class) (done : List Flattened) (count : ℕ) : Type 0 where
  pub resolved : AreResolved classes done
  pub accepted : AreAccepted classes count

module _ (resolved : List Flattened) where
  -- a class was resolved, and isn't refused
  pub record IsDone (place : ℕ) : Type 0 where
    pub flattened : Flattened
    pub at : slice_get resolved place ≡ Some flattened
    pub done : flattened.done ≡ true
    pub none : flattened.refusal ≡ None

  -- nor are those from an index up to another
  pub record AreDone (from to : ℕ) : Type 0 where
    pub each : (place : ℕ) → from ≤ place → place < to → IsDone place

  -- the first class from an index up to another that is refused is so by this refusal
  pub record IsRefusedFrom (from to : ℕ) (refusal : Refusal) : Type 0 where
    pub place : ℕ
    pub within : place < to
    pub flattened : Flattened
    pub at : slice_get resolved place ≡ Some flattened
    pub done : flattened.done ≡ true
    pub refused : flattened.refusal ≡ Some refusal
    pub before : AreDone from place
