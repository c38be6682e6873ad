-- How the signatures of a table are represented: each with the number of the implementations before it.
use Rattle.std.specs.Prelude.{◌≡◌, ℕ, ◌+◌, ◌<◌, ◌^◌, List, [], ◌∷◌, length, map, sum_by}
use Rattle.sa_dispatch.specs.declared.signature.DispatchTable.{DispatchTable}
use Rattle.sa_dispatch.specs.Rising.{IsRising}

-- what a table shows of its signatures
abbrev pub implementing_types : List DispatchTable → List (List ℕ)
implementing_types signatures = map (λ signature. signature.types) signatures

-- signatures after `before` implementations: their types rise, and each has the index of its first implementation
abbrev pub AreNumbered : ℕ → List DispatchTable → Type 0
AreNumbered before [] = Unit {0}
AreNumbered before (signature ∷ more) =
    IsRising signature.types × (signature.first ≡ before) × AreNumbered (before + length signature.types) more

-- the count is that of all implementations, and it and the number of signatures are numbers of 32 bits
pub record IsConsistent (signatures : List DispatchTable) (count : ℕ) : Type 0 where
  pub numbered : AreNumbered 0 signatures
  pub counted : count ≡ sum_by length (implementing_types signatures)
  pub few_implementations : count < 2 ^ 32
  pub few_signatures : length signatures < 2 ^ 32
