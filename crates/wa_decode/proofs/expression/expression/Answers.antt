use Rattle.wa_decode.proofs.Blocks.{stopped-ok, stopped-err, stopped-none, end-stops_first, end-ok, end-err, body-ok, body-err}
use Rattle.wa_decode.proofs.OneInstruction.{the_end}
use Rattle.wa_decode.proofs.Reading.{returned}
use Rattle.wa_decode.proofs.expression.expression.Goals as goal

pub returns-in_err-body-clause-reads : goal.returns-in_err-body-clause-reads
returns-in_err-body-clause-reads c = returned _ c.from_residual.ensures.1 (body-err (stopped-none the_end end-stops_first c.in_err-body.ensures.reads))

pub returns-in_err-end-clause-reads : goal.returns-in_err-end-clause-reads
returns-in_err-end-clause-reads c =
    returned _ c.from_residual-in_err-end.ensures.1 (body-err (stopped-err end-stops_first c.in_ok-body.ensures.reads (end-err c.in_err-end.ensures.reads)))

pub returns-clause-reads : goal.returns-clause-reads
returns-clause-reads c = body-ok _ (stopped-ok end-stops_first c.in_ok-body.ensures.reads (end-ok c.in_ok-end.ensures.reads))
