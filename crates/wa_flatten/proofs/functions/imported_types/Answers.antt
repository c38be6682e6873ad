use Rattle.wa_syntax.specs.declared.module.Import.{Import}
use Rattle.wa_syntax.specs.ValidModule.{imported_function}
use Rattle.wa_flatten.proofs.Lays.{filter-next}
use Rattle.wa_flatten.proofs.functions.imported_types.Goals as goal

pub loop-import-preserved : goal.loop-import-preserved
loop-import-preserved c =
    filter-next (λ (import : Import). imported_function import.kind) c.args.imports.now c.loop-import.import-index c.import-item.result c.loop-import.numbers.items c.add_imported.new.numbers.items c.loop-import-test.true c.import-item.is c.loop-import.invariant c.in_ok-add_imported.ensures
