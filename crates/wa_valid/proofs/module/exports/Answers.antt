use Rattle.std.proofs.Common.{List, refl, ap, subst, true≢false}
use Rattle.std.specs.Prelude.{All, is_ok}
use Rattle.std.proofs.lemmas.List.{take_all}
use Rattle.wa_valid.proofs.Elements.{All-more_item}
use Rattle.wa_syntax.specs.declared.module.Export.{Export}
use Rattle.wa_syntax.specs.ValidModule.{IsExport}
use Rattle.wa_valid.specs.Names.{names}
use Rattle.wa_valid.proofs.module.exports.Goals as goal

pub loop-export-preserved : goal.loop-export-preserved
loop-export-preserved c =
    All-more_item (λ (export : Export). IsExport (names c.args.context.now) export.kind) c.args.exports.now c.loop-export.export-index c.export-item.result c.loop-export-test.true c.export-item.is c.loop-export.invariant (c.in_ok-export_kind.ensures.0 refl)

pub returns : goal.returns
returns c = (
  λ ok. subst (λ (all : List Export). All (λ (export : Export). IsExport (names c.args.context.now) export.kind) all) (take_all c.loop-export.export-index c.args.exports.now c.loop-export-test.false) c.loop-export.invariant,
  λ is. absurd (true≢false (ap is_ok is)),
)
