-- The refusals of a program's classes for their names and their includes: the first class with the name of an earlier one;
-- if there is none, the first name that isn't allowed where it is; and if there is none, the first class that includes itself.
use Rattle.std.specs.Prelude.{◌≡◌, ◌⊎◌, ℕ, ◌<◌, Bool, List, [], Some, slice_get}
use Rattle.sa_ast.specs.declared.class.Class.{Class}
use Rattle.sa_ast.specs.declared.refusal.Refusal.{Refusal}
use Rattle.sa_ast.specs.declared.rule.Rule.TheVariants as rule
use Rattle.sa_include_names.specs.Headers.{misused_names}
use Rattle.sa_include_names.specs.Includes.{AreArrays, IncludesItself}
use Rattle.sa_include_names.specs.Names.{DifferInName, RepeatsName}

module _ (classes : List Class) where
  pub record RefusesRepeated (refusal : Refusal) : Type 0 where
    pub place : ℕ
    pub class : Class
    pub repeats : RepeatsName classes place class
    pub is : refusal ≡ record { rule = rule.ClassDefinedTwice; pos = class.name.pos }

  pub record RefusesMisused (refusal : Refusal) : Type 0 where
    pub differ : DifferInName classes
    pub arrays : List Bool
    pub marked : AreArrays classes arrays
    pub first : slice_get (misused_names classes arrays) 0 ≡ Some refusal.pos
    pub rule : refusal.rule ≡ rule.ClassNotUsable

  -- all names are allowed where they do
  pub record AreNamesRight : Type 0 where
    pub differ : DifferInName classes
    pub arrays : List Bool
    pub marked : AreArrays classes arrays
    pub right : misused_names classes arrays ≡ []

  pub record RefusesCycle (refusal : Refusal) : Type 0 where
    pub right : AreNamesRight
    pub number : ℕ
    pub class : Class
    pub at : slice_get classes number ≡ Some class
    pub cycle : IncludesItself classes number
    pub first : (earlier : ℕ) → earlier < number → ¬ IncludesItself classes earlier
    pub is : refusal ≡ record { rule = rule.Cycle; pos = class.name.pos }

  abbrev pub RefusesNames : Refusal → Type 0
  RefusesNames refusal = RefusesRepeated refusal ⊎ RefusesMisused refusal ⊎ RefusesCycle refusal

  -- nothing of it is refused
  pub record AreIncludesRight : Type 0 where
    pub names : AreNamesRight
    pub cycle : (number : ℕ) → ¬ IncludesItself classes number
