use Rattle.std.proofs.Common.{length, subst, sym}
use Rattle.std.proofs.lemmas.Result.{err_from_is_err_and}
use Rattle.std.proofs.Math.Seq.{take-length}
use Rattle.std.proofs.KnownBytes.{Appends-kept}
use Rattle.std.specs.Io.KnownBytes.{Appends}
use Rattle.host_io.proofs.streams.write_out.Goals as goal

-- if only the flush fails, all bytes were written
pub returns-in_err-flush-clause-err : goal.returns-in_err-flush-clause-err
returns-in_err-flush-clause-err g c =
    let bytes = c.args.bytes.now in
    let before = g.W.Write.contents c.args.writer.now in
    let written = g.W.Write.contents c.write_all.new.writer in
    let after = g.W.Write.contents c.flush.new.self in
    let failed = err_from_is_err_and c.from_residual-in_err-flush.result c.from_residual-in_err-flush.ensures.1 in
    rw failed.1 (
      length bytes,
      subst (λ front. Appends before after front) (sym (take-length bytes)) (Appends-kept before written after bytes c.in_ok-write_all.ensures.ok c.in_err-flush.ensures.bytes),
    )
