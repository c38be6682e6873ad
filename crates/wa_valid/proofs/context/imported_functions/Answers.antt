use Rattle.wa_syntax.specs.ValidModule.{imported_function}
use Rattle.wa_valid.proofs.FilterMaps.{filter_map-more}
use Rattle.wa_valid.proofs.context.imported_functions.Goals as goal

pub loop-import-preserved : goal.loop-import-preserved
loop-import-preserved c =
    filter_map-more (λ import. imported_function import.kind) c.args.imports.now c.loop-import.import-index c.import-item.result _ _ c.import-item.is c.loop-import-test.true c.loop-import.invariant c.in_ok-add_function.ensures.ok
