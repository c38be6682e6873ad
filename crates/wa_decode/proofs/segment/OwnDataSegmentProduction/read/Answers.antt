use Rattle.wa_syntax.specs.BinaryInstructions.{init}
use Rattle.wa_syntax.specs.Formats.{vec, byte}
use Rattle.wa_decode.proofs.ModuleParts.{segment-ok, segment-err}
use Rattle.wa_decode.proofs.Reading.{pair, pair-ok, pair-err, pair-none, read, unread, returned}
use Rattle.wa_decode.proofs.segment.OwnDataSegmentProduction.read.Goals as goal

pub returns-in_err-memory-clause-reads : goal.returns-in_err-memory-clause-reads
returns-in_err-memory-clause-reads c =
    returned _ c.from_residual.ensures.1 (segment-err (pair-none (pair init (vec byte)) c.in_err-memory.ensures.reads))

pub returns-in_err-offset-clause-reads : goal.returns-in_err-offset-clause-reads
returns-in_err-offset-clause-reads c =
    returned _ c.from_residual-in_err-offset.ensures.1
    (segment-err (pair-err c.in_ok-memory.ensures.reads (pair-none (vec byte) c.in_err-offset.ensures.reads)))

pub returns-in_err-content-clause-reads : goal.returns-in_err-content-clause-reads
returns-in_err-content-clause-reads c =
    returned _ c.from_residual-in_err-content.ensures.1
    (segment-err (pair-err c.in_ok-memory.ensures.reads (pair-err c.in_ok-offset.ensures.reads (unread {F = vec byte} c.in_err-content.ensures.complete))))

pub returns-clause-reads : goal.returns-clause-reads
returns-clause-reads c =
    let content = read {F = vec byte} c.in_ok-content.ensures.found c.in_ok-content.ensures.complete in
    rw c.in_ok-bytes.ensures (segment-ok _ _ _ (pair-ok c.in_ok-memory.ensures.reads (pair-ok c.in_ok-offset.ensures.reads content)))
