use Rattle.std.proofs.Common.{◌∙◌, ap, inr, subst, sym}
use Rattle.std.specs.List.{All}
use Rattle.sa_driver.specs.Further.{IsFurther, refusal_lines}
use Rattle.sa_driver.proofs.check.all_refused.Goals as goal

pub returns-in-Ok-clause-may_tell : goal.returns-in-Ok-clause-may_tell
returns-in-Ok-clause-may_tell c =
    let same = sym c.without_module-outcome.ensures.sources in
    inr (record {
      first = c.args.first;
      cause = c.without_module-outcome.ensures.cause;
      refusals = c.as_slice.result.now;
      further = subst (λ sources. All (IsFurther sources) c.as_slice.result.now) same c.in-Ok.ensures.further;
      lines = c.in-Ok.ensures.lines ∙ ap (λ sources. refusal_lines sources c.as_slice.result.now) same;
    })

pub returns-in-Ok-clause-each : goal.returns-in-Ok-clause-each
returns-in-Ok-clause-each c = λ other.
    c.in-Ok.ensures.lines
    ∙ ap (refusal_lines c.args.sources) c.as_slice.ensures.value
    ∙ ap (λ sources. refusal_lines sources c.args.further.items) (sym c.without_module-outcome.ensures.sources)
