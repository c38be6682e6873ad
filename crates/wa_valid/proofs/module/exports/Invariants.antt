use Rattle.std.proofs.Common.{take}
use Rattle.std.specs.Prelude.{All}
use Rattle.wa_syntax.specs.ValidModule.{IsExport}
use Rattle.wa_valid.specs.Names.{names}
use Rattle.wa_valid.proofs.module.exports.Given as goal

abbrev pub invariant-loop-export : goal.invariant-loop-export
invariant-loop-export l = All (λ export. IsExport (names l.context) export.kind) (take l.export-index l.exports)
