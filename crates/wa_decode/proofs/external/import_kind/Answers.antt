use Rattle.wa_syntax.specs.declared.module.ImportKind.TheVariants as imported
use Rattle.wa_decode.proofs.Arms.{arm-ok, arm-err, arms-unread}
use Rattle.wa_decode.proofs.ModuleParts.{importdesc-first, importdesc-func, importdesc-table, importdesc-memory, importdesc-global}
use Rattle.wa_decode.proofs.Reading.{returned}
use Rattle.wa_decode.proofs.external.import_kind.Goals as goal

pub returns-in_err-kind-clause-reads : goal.returns-in_err-kind-clause-reads
returns-in_err-kind-clause-reads c = returned _ c.from_residual.ensures.1 (arms-unread importdesc-first c.in_err-kind.ensures.reads)

pub returns-in_err-ty-in-0-clause-reads : goal.returns-in_err-ty-in-0-clause-reads
returns-in_err-ty-in-0-clause-reads c =
    returned _ c.from_residual-in_err-ty-in-0.ensures.1
    (arm-err 0 (λ u. imported.Func u) importdesc-first importdesc-func c.in_ok-kind.ensures.reads c.in-0.is c.in_err-ty-in-0.ensures.reads)

pub returns-in_ok-ty-in-0-clause-reads : goal.returns-in_ok-ty-in-0-clause-reads
returns-in_ok-ty-in-0-clause-reads c =
    arm-ok 0 (λ u. imported.Func u) importdesc-first importdesc-func c.in_ok-kind.ensures.reads c.in-0.is c.in_ok-ty-in-0.ensures.reads

pub returns-in_err-limits-in-1-clause-reads : goal.returns-in_err-limits-in-1-clause-reads
returns-in_err-limits-in-1-clause-reads c =
    returned _ c.from_residual-in_err-limits-in-1.ensures.1
    (arm-err 1 (λ u. imported.Table u) importdesc-first importdesc-table c.in_ok-kind.ensures.reads c.in-1.is c.in_err-limits-in-1.ensures.reads)

pub returns-in_ok-limits-in-1-clause-reads : goal.returns-in_ok-limits-in-1-clause-reads
returns-in_ok-limits-in-1-clause-reads c =
    arm-ok 1 (λ u. imported.Table u) importdesc-first importdesc-table c.in_ok-kind.ensures.reads c.in-1.is c.in_ok-limits-in-1.ensures.reads

pub returns-in_err-limits-in-2-clause-reads : goal.returns-in_err-limits-in-2-clause-reads
returns-in_err-limits-in-2-clause-reads c =
    returned _ c.from_residual-in_err-limits-in-2.ensures.1
    (arm-err 2 (λ u. imported.Memory u) importdesc-first importdesc-memory c.in_ok-kind.ensures.reads c.in-2.is c.in_err-limits-in-2.ensures.reads)

pub returns-in_ok-limits-in-2-clause-reads : goal.returns-in_ok-limits-in-2-clause-reads
returns-in_ok-limits-in-2-clause-reads c =
    arm-ok 2 (λ u. imported.Memory u) importdesc-first importdesc-memory c.in_ok-kind.ensures.reads c.in-2.is c.in_ok-limits-in-2.ensures.reads

pub returns-in_err-ty-in-3-clause-reads : goal.returns-in_err-ty-in-3-clause-reads
returns-in_err-ty-in-3-clause-reads c =
    returned _ c.from_residual-in_err-ty-in-3.ensures.1
    (arm-err 3 (λ u. imported.Global u) importdesc-first importdesc-global c.in_ok-kind.ensures.reads c.in-3.is c.in_err-ty-in-3.ensures.reads)

pub returns-in_ok-ty-in-3-clause-reads : goal.returns-in_ok-ty-in-3-clause-reads
returns-in_ok-ty-in-3-clause-reads c =
    arm-ok 3 (λ u. imported.Global u) importdesc-first importdesc-global c.in_ok-kind.ensures.reads c.in-3.is c.in_ok-ty-in-3.ensures.reads
