use Rattle.wa_decode.proofs.ModuleParts.{init-ok, init-err}
use Rattle.wa_decode.proofs.Reading.{closed, closed-err, closed-none, returned}
use Rattle.wa_decode.proofs.segment.initial_value.Goals as goal

pub returns-in_err-init-clause-reads : goal.returns-in_err-init-clause-reads
returns-in_err-init-clause-reads c = returned _ c.from_residual.ensures.1 (init-err (closed-none c.in_err-init.ensures.reads))

pub returns-in_err-end-clause-reads : goal.returns-in_err-end-clause-reads
returns-in_err-end-clause-reads c =
    returned _ c.from_residual-in_err-end.ensures.1 (init-err (closed-err c.in_ok-init.ensures.reads c.in_err-end.ensures.reads))

pub returns-clause-reads : goal.returns-clause-reads
returns-clause-reads c = init-ok _ (closed c.in_ok-init.ensures.reads c.in_ok-end.ensures.reads)
