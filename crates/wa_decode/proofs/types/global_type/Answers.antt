use Rattle.wa_syntax.specs.Binary.{mut}
use Rattle.wa_decode.proofs.Reading.{pair-ok, pair-err, pair-none, returned}
use Rattle.wa_decode.proofs.TypeParts.{globaltype-ok, globaltype-err}
use Rattle.wa_decode.proofs.types.global_type.Goals as goal

pub returns-in_err-val-clause-reads : goal.returns-in_err-val-clause-reads
returns-in_err-val-clause-reads c = returned _ c.from_residual.ensures.1 (globaltype-err (pair-none mut c.in_err-val.ensures.reads))

pub returns-in_err-mutable-clause-reads : goal.returns-in_err-mutable-clause-reads
returns-in_err-mutable-clause-reads c =
    returned _ c.from_residual-in_err-mutable.ensures.1 (globaltype-err (pair-err c.in_ok-val.ensures.reads c.in_err-mutable.ensures.reads))

pub returns-clause-reads : goal.returns-clause-reads
returns-clause-reads c = globaltype-ok _ _ (pair-ok c.in_ok-val.ensures.reads c.in_ok-mutable.ensures.reads)
