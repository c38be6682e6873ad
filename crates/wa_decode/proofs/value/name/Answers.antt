use Rattle.wa_decode.proofs.Reading.{read, unread, returned}
use Rattle.wa_decode.proofs.value.name.Goals as goal

pub returns-in_err-text-clause-reads : goal.returns-in_err-text-clause-reads
returns-in_err-text-clause-reads c = returned _ c.from_residual.ensures.1 (unread c.in_err-text.ensures.complete)

pub returns-clause-reads : goal.returns-clause-reads
returns-clause-reads c = rw c.in_ok-from_slice.ensures (read c.in_ok-text.ensures.found c.in_ok-text.ensures.complete)
