use Rattle.std.proofs.Common.{take}
use Rattle.std.specs.Prelude.{All}
use Rattle.wa_syntax.specs.ValidModule.{IsTable}
use Rattle.wa_valid.proofs.module.tables.Given as goal

abbrev pub invariant-loop-table : goal.invariant-loop-table
invariant-loop-table l = All IsTable (take l.table-index l.tables)
