use Rattle.std.proofs.Common.{take}
use Rattle.std.specs.Prelude.{All}
use Rattle.wa_syntax.specs.ValidModule.{IsImport}
use Rattle.wa_valid.specs.Names.{names}
use Rattle.wa_valid.proofs.module.imports.Given as goal

abbrev pub invariant-loop-import : goal.invariant-loop-import
invariant-loop-import l = All (λ import. IsImport (names l.context) import.kind) (take l.import-index l.imports)
