use Rattle.wa_syntax.specs.BinaryInstructions.{valtype}
use Rattle.wa_decode.proofs.CodeParts.{run-ok, run-err}
use Rattle.wa_decode.proofs.Reading.{pair-ok, pair-err, pair-none, returned}
use Rattle.wa_decode.proofs.code.run.Goals as goal

pub returns-in_err-count-clause-reads : goal.returns-in_err-count-clause-reads
returns-in_err-count-clause-reads c = returned _ c.from_residual.ensures.1 (run-err (pair-none valtype c.in_err-count.ensures.reads))

pub returns-in_err-ty-clause-reads : goal.returns-in_err-ty-clause-reads
returns-in_err-ty-clause-reads c =
    returned _ c.from_residual-in_err-ty.ensures.1 (run-err (pair-err c.in_ok-count.ensures.reads c.in_err-ty.ensures.reads))

pub returns-clause-reads : goal.returns-clause-reads
returns-clause-reads c = run-ok _ _ (pair-ok c.in_ok-count.ensures.reads c.in_ok-ty.ensures.reads)
