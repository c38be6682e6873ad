use Rattle.std.proofs.Common.{List, refl, ap, subst, true≢false}
use Rattle.std.specs.Prelude.{All, is_ok}
use Rattle.std.proofs.lemmas.List.{take_all}
use Rattle.std.proofs.lemmas.List.Elements.{All-more}
use Rattle.wa_syntax.specs.declared.module.GlobalDef.{GlobalDef}
use Rattle.wa_syntax.specs.ValidModule.{IsConstant}
use Rattle.wa_valid.proofs.module.initial_values.Goals as goal

pub loop-global-preserved : goal.loop-global-preserved
loop-global-preserved c =
    All-more (λ (global : GlobalDef). IsConstant c.args.known.now global.ty.val global.init) c.args.globals.now c.loop-global.global-index _ c.loop-global-test.true c.loop-global.invariant (c.in_ok-constant_expression.ensures.0 refl)

pub returns : goal.returns
returns c = (
  λ ok. subst (λ (all : List GlobalDef). All (λ (global : GlobalDef). IsConstant c.args.known.now global.ty.val global.init) all) (take_all c.loop-global.global-index c.args.globals.now c.loop-global-test.false) c.loop-global.invariant,
  λ is. absurd (true≢false (ap is_ok is)),
)
