use Rattle.std.proofs.Common.{◌∙◌, ◌||◌, ap₂, refl}
use Rattle.std.proofs.lemmas.Result.{IfOk-weaker}
use Rattle.clap.specs.Words.{with_rule}
use Rattle.sa_cli.proofs.program.compiling.Goals as goal

pub returns : goal.returns
returns c =
    let with_room = c.in_ok-arg.ensures.shape c.option.ensures.own ∙ ap₂ with_rule refl c.option.ensures.rule in
    let kept = c.in_ok-arg.ensures.globals ∙ ap₂ (λ a b. a || b) c.requires.own c.option.ensures.own in
    IfOk-weaker c.arg-2.result _ _ (λ r h. ((h.shape c.flag.ensures.own ∙ ap₂ with_rule with_room c.flag.ensures.rule), (h.globals ∙ ap₂ (λ a b. a || b) kept c.flag.ensures.own))) c.arg-2.ensures
