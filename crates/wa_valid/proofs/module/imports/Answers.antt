use Rattle.std.proofs.Common.{List, refl, ap, subst, true≢false}
use Rattle.std.specs.Prelude.{All, is_ok}
use Rattle.std.proofs.lemmas.List.{take_all}
use Rattle.wa_valid.proofs.Elements.{All-more_item}
use Rattle.wa_syntax.specs.declared.module.Import.{Import}
use Rattle.wa_syntax.specs.ValidModule.{IsImport}
use Rattle.wa_valid.specs.Names.{names}
use Rattle.wa_valid.proofs.module.imports.Goals as goal

pub loop-import-preserved : goal.loop-import-preserved
loop-import-preserved c =
    All-more_item (λ (import : Import). IsImport (names c.args.context.now) import.kind) c.args.imports.now c.loop-import.import-index c.import-item.result c.loop-import-test.true c.import-item.is c.loop-import.invariant (c.in_ok-external_type.ensures.0 refl)

pub returns : goal.returns
returns c = (
  λ ok. subst (λ (all : List Import). All (λ (import : Import). IsImport (names c.args.context.now) import.kind) all) (take_all c.loop-import.import-index c.args.imports.now c.loop-import-test.false) c.loop-import.invariant,
  λ is. absurd (true≢false (ap is_ok is)),
)
