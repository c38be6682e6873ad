-- The content of a store, if it specifies it.
use Rattle.std.specs.Prelude.{◌≡◌, ℕ, ◌≤◌, ◌↔◌, ◌⊎◌, ⊤, List, length, take, drop, Option, None, Some, option_map}
use Rattle.std.specs.Ordering.{nat_cmp}
use Rattle.std.specs.Cmp.Lexicographic.{slice_cmp}
use Rattle.std.specs.FinMap.{FinMap, get, insert}

-- the bytes of each file, under its name
abbrev pub Files : Type 0
Files = FinMap (slice_cmp nat_cmp) (List ℕ)

-- the store specifies its content, and has no file of this name
abbrev pub Lacks : Option Files → List ℕ → Type 0
Lacks None name = ⊥
Lacks (Some files) name = get files name ≡ None

-- the front of the buffer has the next n bytes of the file from this offset on, and n is 0 only after the file's end
pub record IsPart (file : List ℕ) (place n : ℕ) (buffer : List ℕ) : Type 0 where
  pub bytes : take n buffer ≡ take n (drop place file)
  pub at_end : (n ≡ 0) ↔ (length file ≤ place)

-- a read gave n bytes of the file of this name
abbrev pub Reads : Option Files → List ℕ → ℕ → ℕ → List ℕ → Type 0
Reads None name place n buffer = ⊤
Reads (Some files) name place n buffer = (file : List ℕ) × (get files name ≡ Some file) × IsPart file place n buffer

-- the file of this name has these bytes, and the others are unchanged
abbrev pub Writes : Option Files → Option Files → List ℕ → List ℕ → Type 0
Writes old new name bytes = new ≡ option_map (λ files. insert files name bytes) old

-- the file of this name is unchanged or has a prefix of these bytes, and the others are unchanged
abbrev pub WritesFront : Option Files → Option Files → List ℕ → List ℕ → Type 0
WritesFront old new name bytes = (new ≡ old) ⊎ ((k : ℕ) × Writes old new name (take k bytes))
