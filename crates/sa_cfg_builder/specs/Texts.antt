-- What the hash of a text writes to a hasher.
use Rattle.std.specs.Prelude.{ℕ, ◌-◌, ◌∷◌, [], ◌++◌, List, length, take, drop}
use Rattle.std.specs.Hash as fed
use Rattle.std.specs.Hash.{HashWrites}

-- its first 1,024 bytes, and its last ones
abbrev pub front : List ℕ → List ℕ
front text = take 1024 text

abbrev pub back : List ℕ → List ℕ
back text = drop (length text - 1024) text

-- how many bytes it has, and then both ends
abbrev pub literal_writes : List ℕ → HashWrites
literal_writes text = fed.usize (length text) ++ front text ∷ back text ∷ []
