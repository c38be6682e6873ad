-- What a sink has taken, if it specifies it.
use Rattle.std.specs.Prelude.{◌≡◌, ℕ, List, ◌++◌, take, Option, option_map}

-- the sink appended these bytes to what it had
abbrev pub Took : Option (List ℕ) → Option (List ℕ) → List ℕ → Type 0
Took old new bytes = new ≡ option_map (λ taken. taken ++ bytes) old

-- the sink appended a prefix of these bytes
abbrev pub TookFront : Option (List ℕ) → Option (List ℕ) → List ℕ → Type 0
TookFront old new bytes = (k : ℕ) × Took old new (take k bytes)

-- the sink has what it had, and perhaps more after it
abbrev pub Grew : Option (List ℕ) → Option (List ℕ) → Type 0
Grew old new = (more : List ℕ) × Took old new more
