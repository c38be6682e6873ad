use Rattle.wa_syntax.specs.BinaryInstructions.{init}
use Rattle.wa_syntax.specs.Formats.{vec, u32}
use Rattle.wa_decode.proofs.ModuleParts.{elem-ok, elem-err}
use Rattle.wa_decode.proofs.Reading.{pair, pair-ok, pair-err, pair-none, returned}
use Rattle.wa_decode.proofs.segment.OwnElemSegmentProduction.read.Goals as goal

pub returns-in_err-table-clause-reads : goal.returns-in_err-table-clause-reads
returns-in_err-table-clause-reads c = returned _ c.from_residual.ensures.1 (elem-err (pair-none (pair init (vec u32)) c.in_err-table.ensures.reads))

pub returns-in_err-offset-clause-reads : goal.returns-in_err-offset-clause-reads
returns-in_err-offset-clause-reads c =
    returned _ c.from_residual-in_err-offset.ensures.1
    (elem-err (pair-err c.in_ok-table.ensures.reads (pair-none (vec u32) c.in_err-offset.ensures.reads)))

pub returns-in_err-funcs-clause-reads : goal.returns-in_err-funcs-clause-reads
returns-in_err-funcs-clause-reads c =
    returned _ c.from_residual-in_err-funcs.ensures.1
    (elem-err (pair-err c.in_ok-table.ensures.reads (pair-err c.in_ok-offset.ensures.reads c.in_err-funcs.ensures.reads)))

pub returns-clause-reads : goal.returns-clause-reads
returns-clause-reads c =
    elem-ok _ _ _ (pair-ok c.in_ok-table.ensures.reads (pair-ok c.in_ok-offset.ensures.reads c.in_ok-funcs.ensures.reads))
