use Rattle.std.proofs.Common.{arith}
use Rattle.wa_decode.proofs.CodeParts.{locals-ok, locals-err, locals-many}
use Rattle.wa_decode.proofs.Reading.{returned}
use Rattle.wa_decode.proofs.code.locals.Goals as goal

pub returns-in_err-locals-clause-reads : goal.returns-in_err-locals-clause-reads
returns-in_err-locals-clause-reads c = returned _ c.from_residual.ensures.1 (locals-err c.in_err-locals.ensures.reads)

pub returns-then-len-le-MAX_LOCALS-clause-reads : goal.returns-then-len-le-MAX_LOCALS-clause-reads
returns-then-len-le-MAX_LOCALS-clause-reads c = locals-ok _ (omega (arith, c.len.ensures)) c.in_ok-locals.ensures.reads

pub returns-else-len-le-MAX_LOCALS-clause-reads : goal.returns-else-len-le-MAX_LOCALS-clause-reads
returns-else-len-le-MAX_LOCALS-clause-reads c = locals-many _ (omega (arith, c.len.ensures)) c.in_ok-locals.ensures.reads
