use Rattle.std.proofs.Common.{◌≡◌, take}
use Rattle.std.specs.Prelude.{filter_map}
use Rattle.wa_syntax.specs.ValidModule.{imported_function}
use Rattle.wa_flatten.proofs.functions.imported_types.Given as goal

abbrev pub invariant-loop-import : goal.invariant-loop-import
invariant-loop-import l = l.numbers.items ≡ filter_map (λ import. imported_function import.kind) (take l.import-index l.imports)
