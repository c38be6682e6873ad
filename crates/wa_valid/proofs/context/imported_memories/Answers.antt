use Rattle.std.proofs.Common.{arith}
use Rattle.wa_syntax.specs.ValidModule.{imported_memory}
use Rattle.wa_valid.proofs.FilterMaps.{count-more}
use Rattle.wa_valid.proofs.context.imported_memories.Goals as goal

pub loop-import-preserved : goal.loop-import-preserved
loop-import-preserved c = record {
  count = count-more (λ import. imported_memory import.kind) c.args.imports.now c.loop-import.import-index c.import-item.result c.import-item.is c.loop-import.count c.memory_count-count.result c.loop-import-test.true c.loop-import.invariant.count c.memory_count-count.ensures.count;
  below = omega (arith, c.memory_count-count.ensures.most);
}
