use Rattle.wa_syntax.specs.Binary.{exportdesc}
use Rattle.wa_decode.proofs.ModuleParts.{export-ok, export-err}
use Rattle.wa_decode.proofs.Reading.{pair-ok, pair-err, pair-none, returned}
use Rattle.wa_decode.proofs.external.ExportEntryProduction.read.Goals as goal

pub returns-in_err-name-clause-reads : goal.returns-in_err-name-clause-reads
returns-in_err-name-clause-reads c = returned _ c.from_residual.ensures.1 (export-err (pair-none exportdesc c.in_err-name.ensures.reads))

pub returns-in_err-kind-clause-reads : goal.returns-in_err-kind-clause-reads
returns-in_err-kind-clause-reads c =
    returned _ c.from_residual-in_err-kind.ensures.1 (export-err (pair-err c.in_ok-name.ensures.reads c.in_err-kind.ensures.reads))

pub returns-clause-reads : goal.returns-clause-reads
returns-clause-reads c = export-ok _ _ (pair-ok c.in_ok-name.ensures.reads c.in_ok-kind.ensures.reads)
