use Rattle.wa_syntax.specs.BinaryInstructions.{init}
use Rattle.wa_decode.proofs.ModuleParts.{global-ok, global-err}
use Rattle.wa_decode.proofs.Reading.{pair-ok, pair-err, pair-none, returned}
use Rattle.wa_decode.proofs.segment.OwnGlobalProduction.read.Goals as goal

pub returns-in_err-ty-clause-reads : goal.returns-in_err-ty-clause-reads
returns-in_err-ty-clause-reads c = returned _ c.from_residual.ensures.1 (global-err (pair-none init c.in_err-ty.ensures.reads))

pub returns-in_err-init-clause-reads : goal.returns-in_err-init-clause-reads
returns-in_err-init-clause-reads c =
    returned _ c.from_residual-in_err-init.ensures.1 (global-err (pair-err c.in_ok-ty.ensures.reads c.in_err-init.ensures.reads))

pub returns-clause-reads : goal.returns-clause-reads
returns-clause-reads c = global-ok _ _ (pair-ok c.in_ok-ty.ensures.reads c.in_ok-init.ensures.reads)
