use Rattle.std.proofs.Common.{◌∙◌, subst, sym}
use Rattle.sa_driver.specs.Ends.{ComesBeforeOutput, IsOfModule, cause_of}
use Rattle.sa_driver.specs.Lines.{IsPlaced}
use Rattle.sa_driver.specs.HostParts.{part}
use Rattle.sa_driver.proofs.RunLemmas.{traced}
use Rattle.sa_driver.proofs.traced_run.run_built_with_trace.Goals as goal

pub returns-clause-ran : goal.returns-clause-ran
returns-clause-ran g c =
    let run = c.run_traced-traced.result.run in
    let ran = c.run_traced-traced.ensures.ran in
    let of_positions = subst (λ positions. IsOfModule positions c.args.sources c.cause_of-cause.result c.at_place.result) c.as_slice-2.ensures c.at_place.ensures.of_module in
    let of_module = subst (λ cause. IsOfModule c.args.built.positions c.args.sources cause c.at_place.result) c.cause_of-cause.ensures.value of_positions in
    traced (part g.I.Source.input g.I.Source.faults c.args.input.now c.run_traced-traced.new.input) (part g.O.Sink.output g.O.Sink.faults c.args.out.now c.run_traced-traced.new.out) (part g.E.Sink.output g.E.Sink.faults c.args.err.now c.run_traced-traced.new.err) (IsOfModule c.args.built.positions c.args.sources) c.args.built c.args.sources _ c.args.built.sites c.args.fuel run ran.0 _ c.requires.tried (record {
      says = c.run_traced-traced.ensures.says;
      reported = c.run_traced-traced.ensures.reported;
      within = c.run_traced-traced.ensures.within;
      ran = ran.1;
      starts = λ runnable. c.run_traced-traced.ensures.starts runnable.linked runnable.fit;
    }) c.as_slice.ensures ran.2 c.outcome-outcome.ensures.sources c.outcome-outcome.ensures.bytes (subst (IsOfModule c.args.built.positions c.args.sources (cause_of c.args.fuel run.answer)) (sym c.outcome-outcome.ensures.cause) of_module) (c.outcome-outcome.ensures.done ∙ c.done_of.ensures) c.outcome-outcome.ensures.steps

pub returns-clause-placed : goal.returns-clause-placed
returns-clause-placed g c =
    let reported = subst (λ sources. IsPlaced sources c.at_place.result) (sym c.outcome-outcome.ensures.sources) (c.at_place.ensures.placed (c.cause_of-cause.ensures.placed c.args.sources)) in
    subst (IsPlaced c.outcome-outcome.result.sources) (sym c.outcome-outcome.ensures.cause) reported

pub returns-clause-untouched : goal.returns-clause-untouched
returns-clause-untouched g c = λ before.
    let earlier = c.cause_of-cause.ensures.before (c.at_place.ensures.untouched (subst ComesBeforeOutput c.outcome-outcome.ensures.cause before)) in
    let kept = c.run_traced-traced.ensures.untouched earlier in
    (kept.0, kept.1)
