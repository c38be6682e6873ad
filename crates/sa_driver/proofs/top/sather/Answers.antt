use Rattle.std.proofs.Common.{◌∙◌, inl, inr, rules, sym}
use Rattle.sa_trace.specs.Writing.{sink}
use Rattle.sa_driver.proofs.OutputLemmas.{explained}
use Rattle.sa_driver.proofs.top.sather.Goals.{in-Done, in_default}
use Rattle.sa_driver.proofs.top.sather.Goals as goal

pub returns-clause-answer : goal.returns-clause-answer
returns-clause-answer g c = (
  c.obey-outcome.result.outcome,
  sink (g.E.Sink.output c.obey-outcome.new.err) (g.E.Sink.faults c.obey-outcome.new.err),
  sink (g.E.Sink.output c.report-cause.new.err) (g.E.Sink.faults c.report-cause.new.err),
  c.obey-outcome.ensures.obeys,
  record { file = c.obey-outcome.ensures.file; steps = c.obey-outcome.ensures.steps; further = c.obey-outcome.ensures.further },
  record {
    ends = c.report-cause.ensures.ends;
    done = elim c.match-cause.branch [
      | in-Done w ↦ λ done. w.status-is
      | in_default w ↦ λ done. absurd (w.in_default.not-Done done)
    ];
    status = elim c.match-cause.branch [
      | in-Done w ↦ λ other. absurd (other w.in-Done.is)
      | in_default w ↦ λ other. search rules
    ];
    bytes = search rules;
  },
  explained _ _ _ c.obey-outcome.ensures.detail c.report_more.ensures,
)

pub returns-clause-done : goal.returns-clause-done
returns-clause-done g c = λ none done. elim c.report-cause.ensures.occurs [
  | inl memory ↦ cc
  | inr same ↦ elim c.match-cause.branch [
    | in-Done w ↦ w.status-is ∙ c.obey-outcome.ensures.done none (sym same ∙ done)
    | in_default w ↦ absurd (w.in_default.not-Done done)
  ]
]
