-- The numbers of blocks, one block after another.
use Rattle.std.proofs.Common.{◌≡◌, ◌<◌, ◌≤◌, ◌+◌, ◌⊎◌, ℕ, List, length, Option, Some, inl, inr, subst, arith}
use Rattle.std.proofs.lemmas.Option.{slice_get_within}
use Rattle.sa_structure.specs.Numbering.{ArePlaces, IsPlace}

-- the numbers of the first n blocks are their indices
pub record PlacesSoFar (entries : List ℕ) (numbers : List (Option ℕ)) (n : ℕ) : Type 0 where
  pub each : (block : ℕ) → block < n → IsPlace entries numbers block

pub places-none : (entries : List ℕ) (numbers : List (Option ℕ)) → PlacesSoFar entries numbers 0
places-none entries numbers = record { each = λ block h. absurd (omega (arith, h)) }

pub places-more : (entries : List ℕ) (numbers : List (Option ℕ)) (n : ℕ) → PlacesSoFar entries numbers n → IsPlace entries numbers n → PlacesSoFar entries numbers (n + 1)
places-more entries numbers n all here = record { each = λ block h. by block (near block h) }
  where
    near : (block : ℕ) → block < n + 1 → (block < n) ⊎ (n ≡ block)
    near block h = grind (arith, h)

    by : (block : ℕ) → (block < n) ⊎ (n ≡ block) → IsPlace entries numbers block
    by block (inl lt) = all.each block lt
    by block (inr e) = subst (IsPlace entries numbers) e here

pub places-all : (entries : List ℕ) (numbers : List (Option ℕ)) (n : ℕ) → length numbers ≤ n → PlacesSoFar entries numbers n → ArePlaces entries numbers
places-all entries numbers n le all block number h = all.each block within number h
  where
    within : block < n
    within = omega (arith, le, slice_get_within numbers block (Some number) h)

pub ruleset numbered = (places-none, places-more, places-all)
