use Rattle.std.proofs.Common.{◌≢◌, ℕ, ◌<◌, slice_index_or, string_bytes}
use Rattle.host_io.specs.FileList.{File}
use Rattle.host_io.proofs.mem_store.MemStore.names_differ.Given as goal

-- no file so far has the name of an earlier one
abbrev pub invariant-loop-place : goal.invariant-loop-place
invariant-loop-place l =
    (i j : ℕ) (d : File) → i < j → j < l.place → string_bytes (slice_index_or l.files i d).0 ≢ string_bytes (slice_index_or l.files j d).0
