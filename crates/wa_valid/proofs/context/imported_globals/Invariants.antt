use Rattle.std.proofs.Common.{◌≡◌, take}
use Rattle.std.specs.Prelude.{filter_map}
use Rattle.wa_syntax.specs.ValidModule.{imported_global}
use Rattle.wa_valid.proofs.context.imported_globals.Given as goal

abbrev pub invariant-loop-import : goal.invariant-loop-import
invariant-loop-import l = l.found ≡ filter_map (λ import. imported_global import.kind) (take l.import-index l.imports)
