use Rattle.std.proofs.Common.{List, refl, ap, subst, true≢false}
use Rattle.std.specs.Prelude.{All, is_ok}
use Rattle.std.proofs.lemmas.List.{take_all}
use Rattle.std.proofs.lemmas.List.Elements.{All-more}
use Rattle.wa_syntax.specs.declared.module.Limits.{Limits}
use Rattle.wa_syntax.specs.ValidModule.{IsTable}
use Rattle.wa_valid.proofs.module.tables.Goals as goal

pub loop-table-preserved : goal.loop-table-preserved
loop-table-preserved c =
    All-more (IsTable) c.args.tables.now c.loop-table.table-index _ c.loop-table-test.true c.loop-table.invariant (c.in_ok-table_type.ensures.0 refl)

pub returns : goal.returns
returns c = (
  λ ok. subst (λ (all : List Limits). All (IsTable) all) (take_all c.loop-table.table-index c.args.tables.now c.loop-table-test.false) c.loop-table.invariant,
  λ is. absurd (true≢false (ap is_ok is)),
)
