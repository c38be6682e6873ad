use Rattle.std.proofs.Common.{◌≤◌, List, length, refl, ap, subst, true≢false}
use Rattle.std.specs.Prelude.{All, is_ok}
use Rattle.std.proofs.lemmas.List.{take_all}
use Rattle.wa_valid.proofs.Elements.{All-more_item}
use Rattle.wa_syntax.specs.declared.module.FuncTy.{FuncTy}
use Rattle.wa_valid.proofs.module.function_types.Goals as goal

pub loop-ty-preserved : goal.loop-ty-preserved
loop-ty-preserved c =
    All-more_item (λ (ty : FuncTy). length ty.results ≤ 1) c.args.types.now c.loop-ty.ty-index c.ty-item.result c.loop-ty-test.true c.ty-item.is c.loop-ty.invariant (c.in_ok-function_type.ensures.0 refl)

pub returns : goal.returns
returns c = (
  λ ok. subst (λ (all : List FuncTy). All (λ (ty : FuncTy). length ty.results ≤ 1) all) (take_all c.loop-ty.ty-index c.args.types.now c.loop-ty-test.false) c.loop-ty.invariant,
  λ is. absurd (true≢false (ap is_ok is)),
)
