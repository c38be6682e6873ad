use Rattle.std.proofs.Common.{◌≡◌, ◌≤◌, length, take}
use Rattle.std.specs.Prelude.{filter_map}
use Rattle.wa_syntax.specs.ValidModule.{imported_memory}
use Rattle.wa_valid.proofs.context.imported_memories.Given as goal

abbrev pub invariant-loop-import : goal.invariant-loop-import
invariant-loop-import l = record {
  count : l.count ≡ length (filter_map (λ import. imported_memory import.kind) (take l.import-index l.imports));
  below : l.count ≤ l.import-index;
}
