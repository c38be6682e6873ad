use Rattle.wa_syntax.specs.Binary.{importdesc}
use Rattle.wa_syntax.specs.Formats.{name}
use Rattle.wa_decode.proofs.ModuleParts.{import-ok, import-err}
use Rattle.wa_decode.proofs.Reading.{pair, pair-ok, pair-err, pair-none, returned}
use Rattle.wa_decode.proofs.external.ImportEntryProduction.read.Goals as goal

pub returns-in_err-module-clause-reads : goal.returns-in_err-module-clause-reads
returns-in_err-module-clause-reads c = returned _ c.from_residual.ensures.1 (import-err (pair-none (pair name importdesc) c.in_err-module.ensures.reads))

pub returns-in_err-name-clause-reads : goal.returns-in_err-name-clause-reads
returns-in_err-name-clause-reads c =
    returned _ c.from_residual-in_err-name.ensures.1
    (import-err (pair-err c.in_ok-module.ensures.reads (pair-none importdesc c.in_err-name.ensures.reads)))

pub returns-in_err-kind-clause-reads : goal.returns-in_err-kind-clause-reads
returns-in_err-kind-clause-reads c =
    returned _ c.from_residual-in_err-kind.ensures.1
    (import-err (pair-err c.in_ok-module.ensures.reads (pair-err c.in_ok-name.ensures.reads c.in_err-kind.ensures.reads)))

pub returns-clause-reads : goal.returns-clause-reads
returns-clause-reads c =
    import-ok _ _ _ (pair-ok c.in_ok-module.ensures.reads (pair-ok c.in_ok-name.ensures.reads c.in_ok-kind.ensures.reads))
