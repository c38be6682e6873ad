-- What `hash` of a name writes to a hasher.
use Rattle.std.specs.Prelude.{ℕ, ◌∷◌, [], ◌++◌, List, length}
use Rattle.std.specs.Hash as fed
use Rattle.std.specs.Hash.{HashWrites}

-- the number of bytes, then the bytes
abbrev pub name_writes : List ℕ → HashWrites
name_writes name = fed.usize (length name) ++ name ∷ []
