use Rattle.std.proofs.Common.{◌≢◌, ℕ, ◌<◌, List, length, slice_index_or, string_bytes, ap, subst, ◌∙◌}
use Rattle.host_io.specs.FileList.{File, files_of, IsFirstOfName}
use Rattle.host_io.proofs.FileListLemmas.{files_of-set, files_of-push}
use Rattle.host_io.proofs.mem_store.set.Goals as goal

pub returns-in-Some-clause-ok : goal.returns-in-Some-clause-ok
returns-in-Some-clause-ok c =
    let name = c.args.name.now in
    let place = c.in-Some.place in
    let was = c.index_mut.result.now in
    let P : List File → Type 0 = λ files. IsFirstOfName files name place in
    let first : IsFirstOfName c.args.files.now.items name place = subst P c.deref.ensures.value c.in-Some.ensures.found in
    files_of-set name c.args.files.now.items place (was.0, c.args.bytes) first (ap (λ f. string_bytes f.0) c.index_mut.ensures.value ∙ first.here was)

pub returns-in_ok-push-in-None-clause-ok : goal.returns-in_ok-push-in-None-clause-ok
returns-in_ok-push-in-None-clause-ok c =
    let name = c.args.name.now in
    let P : List File → Type 0 = λ files. (k : ℕ) (d : File) → k < length files → string_bytes (slice_index_or files k d).0 ≢ name in
    ap files_of c.in_ok-push-in-None.ensures.items
    ∙ files_of-push name c.args.files.now.items (c.in_ok-name-in-None.name, c.args.bytes) (subst P c.deref.ensures.value c.in-None.ensures.none) c.in_ok-name-in-None.ensures.ok
