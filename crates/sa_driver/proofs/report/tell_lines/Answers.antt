use Rattle.std.proofs.Common.{◌∙◌, inl, inr, subst}
use Rattle.host_io.specs.Output.{TookFront}
use Rattle.sa_driver.proofs.OutputLemmas.{TookFront-longer}
use Rattle.sa_driver.proofs.report.tell_lines.Goals as goal

pub returns-in-Ok-clause-reported_part : goal.returns-in-Ok-clause-reported_part
returns-in-Ok-clause-reported_part g c = λ memory.
    inl (subst (TookFront (g.E.Sink.output c.args.err.now) (g.E.Sink.output c.tell.new.err)) (c.as_slice.ensures.value ∙ c.in-Ok.ensures) c.tell.ensures.reported_part)

pub returns-in-Err-clause-reported_part : goal.returns-in-Err-clause-reported_part
returns-in-Err-clause-reported_part g c = λ memory. inr (TookFront-longer _ _ _ _ c.tell-in-Err.ensures.reported_part)
