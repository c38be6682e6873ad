use Rattle.std.proofs.Common.{sym, ap, ◌∙◌, Some}
use Rattle.std.specs.Option.{option_copied}
use Rattle.host_io.proofs.FileListLemmas.{get-files_of, bytes_of-none, bytes_of-first}
use Rattle.host_io.proofs.mem_store.find.Goals as goal

pub returns-in_err-place : goal.returns-in_err-place
returns-in_err-place c =
    let files = c.args.files.now in
    let name = c.args.name.now in
    ap option_copied c.from_residual.ensures ∙ sym (get-files_of files name ∙ bytes_of-none name files c.in_err-place.ensures.none)

pub returns : goal.returns
returns c =
    let files = c.args.files.now in
    let name = c.args.name.now in
    ap Some c.as_slice.ensures.value
    ∙ sym (get-files_of files name ∙ bytes_of-first name files c.in_ok-place.place c.index-files-place.result c.in_ok-place.ensures.found)
