use Rattle.std.proofs.Common.{◌≢◌, ℕ, ◌<◌, slice_index_or, string_bytes}
use Rattle.host_io.specs.FileList.{File}
use Rattle.host_io.proofs.mem_store.place_of.Given as goal

-- no file so far has the name
abbrev pub invariant-loop-i : goal.invariant-loop-i
invariant-loop-i l = (k : ℕ) (d : File) → k < l.i → string_bytes (slice_index_or l.files k d).0 ≢ l.name
