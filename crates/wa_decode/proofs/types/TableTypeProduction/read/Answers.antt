use Rattle.wa_decode.proofs.Reading.{pass, pass-none, returned}
use Rattle.wa_decode.proofs.types.TableTypeProduction.read.Goals as goal

pub returns-in_err-at-clause-reads : goal.returns-in_err-at-clause-reads
returns-in_err-at-clause-reads c = returned _ c.from_residual.ensures.1 (pass-none c.in_err-at.ensures.reads)

pub returns-clause-reads : goal.returns-clause-reads
returns-clause-reads c = pass c.in_ok-at.ensures.reads c.limits.ensures.reads
