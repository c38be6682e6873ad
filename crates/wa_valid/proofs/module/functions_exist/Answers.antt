use Rattle.std.proofs.Common.{ℕ, ◌<◌, List, length, refl, ap, subst, true≢false}
use Rattle.std.specs.Prelude.{All, is_ok}
use Rattle.std.proofs.lemmas.List.{take_all}
use Rattle.std.proofs.lemmas.List.Elements.{All-more}
use Rattle.wa_valid.proofs.module.functions_exist.Goals as goal

pub loop-func-preserved : goal.loop-func-preserved
loop-func-preserved c =
    All-more (λ (func : ℕ). func < length c.args.context.now.funcs) c.args.funcs.now c.loop-func.func-index _ c.loop-func-test.true c.loop-func.invariant (c.in_ok-function_exists.ensures.0 refl)

pub returns : goal.returns
returns c = (
  λ ok. subst (λ (all : List ℕ). All (λ (func : ℕ). func < length c.args.context.now.funcs) all) (take_all c.loop-func.func-index c.args.funcs.now c.loop-func-test.false) c.loop-func.invariant,
  λ is. absurd (true≢false (ap is_ok is)),
)
