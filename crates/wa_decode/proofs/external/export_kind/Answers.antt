use Rattle.std.proofs.Common.{rules}
use Rattle.wa_syntax.specs.Formats.{u32}
use Rattle.wa_syntax.specs.declared.module.ExportKind.TheVariants as exported
use Rattle.wa_decode.proofs.Arms.{arm-ok, arms-none}
use Rattle.wa_decode.proofs.ModuleParts.{exportdesc-first, exportdesc-func, exportdesc-table, exportdesc-memory, exportdesc-global, exportdesc-none, exportdesc-err}
use Rattle.wa_decode.proofs.Reading.{pair-err, pair-none, returned}
use Rattle.wa_decode.proofs.external.export_kind.Goals as goal

pub returns-in_err-kind-clause-reads : goal.returns-in_err-kind-clause-reads
returns-in_err-kind-clause-reads c = returned _ c.from_residual.ensures.1 (exportdesc-err (pair-none u32 c.in_err-kind.ensures.reads))

pub returns-in_err-index-clause-reads : goal.returns-in_err-index-clause-reads
returns-in_err-index-clause-reads c =
    returned _ c.from_residual-in_err-index.ensures.1 (exportdesc-err (pair-err c.in_ok-kind.ensures.reads c.in_err-index.ensures.reads))

pub returns-in-0-clause-reads : goal.returns-in-0-clause-reads
returns-in-0-clause-reads c =
    arm-ok 0 (λ u. exported.Func u) exportdesc-first exportdesc-func c.in_ok-kind.ensures.reads c.in-0.is c.in_ok-index.ensures.reads

pub returns-in-1-clause-reads : goal.returns-in-1-clause-reads
returns-in-1-clause-reads c =
    arm-ok 1 (λ u. exported.Table u) exportdesc-first exportdesc-table c.in_ok-kind.ensures.reads c.in-1.is c.in_ok-index.ensures.reads

pub returns-in-2-clause-reads : goal.returns-in-2-clause-reads
returns-in-2-clause-reads c =
    arm-ok 2 (λ u. exported.Memory u) exportdesc-first exportdesc-memory c.in_ok-kind.ensures.reads c.in-2.is c.in_ok-index.ensures.reads

pub returns-in-3-clause-reads : goal.returns-in-3-clause-reads
returns-in-3-clause-reads c =
    arm-ok 3 (λ u. exported.Global u) exportdesc-first exportdesc-global c.in_ok-kind.ensures.reads c.in-3.is c.in_ok-index.ensures.reads

pub returns-in_default-clause-reads : goal.returns-in_default-clause-reads
returns-in_default-clause-reads c =
    arms-none exportdesc-first c.in_ok-kind.ensures.reads
    (exportdesc-none _ (λ e. search rules) (λ e. search rules) (λ e. search rules) (λ e. search rules))
