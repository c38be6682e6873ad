use Rattle.std.proofs.Common.{◌<◌, List, length, refl, ap, subst, true≢false}
use Rattle.std.specs.Prelude.{All, is_ok}
use Rattle.std.proofs.lemmas.List.{take_all}
use Rattle.wa_valid.proofs.Elements.{All-more_item}
use Rattle.wa_syntax.specs.declared.module.Func.{Func}
use Rattle.wa_valid.proofs.module.functions.Goals as goal

pub loop-func-preserved : goal.loop-func-preserved
loop-func-preserved c =
    All-more_item (λ (func : Func). func.ty < length c.args.types.now) c.args.funcs.now c.loop-func.func-index c.func-item.result c.loop-func-test.true c.func-item.is c.loop-func.invariant (c.in_ok-type_exists.ensures.0 refl)

pub returns : goal.returns
returns c = (
  λ ok. subst (λ (all : List Func). All (λ (func : Func). func.ty < length c.args.types.now) all) (take_all c.loop-func.func-index c.args.funcs.now c.loop-func-test.false) c.loop-func.invariant,
  λ is. absurd (true≢false (ap is_ok is)),
)
