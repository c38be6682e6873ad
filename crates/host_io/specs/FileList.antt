-- Files as a list of pairs of a name and its bytes.
use Rattle.std.specs.Prelude.{◌≡◌, ◌≢◌, ℕ, ◌<◌, List, length, map, slice_index_or, AllPairs, Vec, String, string_bytes}
use Rattle.std.specs.FinMap.{from_entries}
use Rattle.std.specs.declared.alloc.Global.{Global}
use Rattle.host_io.specs.Files.{Files}

-- a name with its bytes, as a store in memory represents them
abbrev pub File : Type 0
File = String Global × Vec ℕ Global

-- the name and the bytes of each file, in their order
abbrev pub entries_of : List File → List (List ℕ × List ℕ)
entries_of files = map (λ f. (string_bytes f.0, f.1.items)) files

-- the map of these files, whose names differ
abbrev pub files_of : List File → Files
files_of files = from_entries (entries_of files)

-- no two of them have the same name
abbrev pub HaveDistinctNames : List File → Type 0
HaveDistinctNames files = AllPairs (λ f g. string_bytes f.0 ≢ string_bytes g.0) files

-- the file at this index has this name, and none before it has
pub record IsFirstOfName (files : List File) (name : List ℕ) (place : ℕ) : Type 0 where
  pub within : place < length files
  pub here : (d : File) → string_bytes (slice_index_or files place d).0 ≡ name
  pub before : (k : ℕ) (d : File) → k < place → string_bytes (slice_index_or files k d).0 ≢ name
