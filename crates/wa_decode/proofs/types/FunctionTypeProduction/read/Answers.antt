use Rattle.wa_syntax.specs.BinaryInstructions.{valtype}
use Rattle.wa_syntax.specs.Formats.{vec}
use Rattle.wa_decode.proofs.Reading.{pass, pass-none, pair-ok, pair-err, pair-none, returned}
use Rattle.wa_decode.proofs.TypeParts.{functype-ok, functype-err}
use Rattle.wa_decode.proofs.types.FunctionTypeProduction.read.Goals as goal

pub returns-in_err-at-clause-reads : goal.returns-in_err-at-clause-reads
returns-in_err-at-clause-reads c = returned _ c.from_residual.ensures.1 (functype-err (pass-none c.in_err-at.ensures.reads))

pub returns-in_err-params-clause-reads : goal.returns-in_err-params-clause-reads
returns-in_err-params-clause-reads c =
    returned _ c.from_residual-in_err-params.ensures.1
    (functype-err (pass c.in_ok-at.ensures.reads (pair-none (vec valtype) c.in_err-params.ensures.reads)))

pub returns-in_err-results-clause-reads : goal.returns-in_err-results-clause-reads
returns-in_err-results-clause-reads c =
    returned _ c.from_residual-in_err-results.ensures.1
    (functype-err (pass c.in_ok-at.ensures.reads (pair-err c.in_ok-params.ensures.reads c.in_err-results.ensures.reads)))

pub returns-clause-reads : goal.returns-clause-reads
returns-clause-reads c = functype-ok _ _ (pass c.in_ok-at.ensures.reads (pair-ok c.in_ok-params.ensures.reads c.in_ok-results.ensures.reads))
