-- How the blocks in which a body begins and resumes are numbered: by their indices among the entries.
use Rattle.std.specs.Prelude.{◌≡◌, ℕ, List, Option, Some, IsTrue, slice_get}
use Rattle.sa_structure.specs.Stands.{each, is_numbered}

-- the number of the block, if it has one, is its index among the entries
abbrev pub IsPlace : (entries : List ℕ) → (numbers : List (Option ℕ)) → (block : ℕ) → Type 0
IsPlace entries numbers block = (number : ℕ) → slice_get numbers block ≡ Some (Some number) → slice_get entries number ≡ Some block

-- so it is of each block
abbrev pub ArePlaces : (entries : List ℕ) → (numbers : List (Option ℕ)) → Type 0
ArePlaces entries numbers = (block : ℕ) → IsPlace entries numbers block

-- a body begins in block 0, and each entry has a number; `again` has those of the blocks that are reached again by the dispatch
pub record AreNumbered (entries : List ℕ) (numbers again : List (Option ℕ)) : Type 0 where
  pub first : slice_get entries 0 ≡ Some 0
  pub has_one : IsTrue (each (is_numbered numbers) entries)
  pub places : ArePlaces entries numbers
  pub again_places : ArePlaces entries again
