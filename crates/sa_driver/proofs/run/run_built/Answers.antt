use Rattle.std.proofs.Common.{sym, subst}
use Rattle.sa_driver.specs.Ends.{IsOfModule}
use Rattle.sa_driver.specs.Lines.{IsPlaced}
use Rattle.sa_driver.proofs.RunLemmas.{shown_built}
use Rattle.sa_driver.proofs.run.run_built.Goals as goal

pub returns-clause-ran : goal.returns-clause-ran
returns-clause-ran g c =
    let ran = c.run_valid-ended.ensures.ran in
    let of_module = subst (λ positions. IsOfModule positions c.args.sources c.run_valid-ended.result.cause c.at_place-cause.result) c.as_slice.ensures c.at_place-cause.ensures.of_module in
    shown_built _ _ (IsOfModule c.args.built.positions c.args.sources) c.args.built c.args.fuel c.run_valid-ended.result ran.0 c.outcome.result c.requires.tried ran.1 ran.2 c.outcome.ensures.bytes (subst (IsOfModule c.args.built.positions c.args.sources c.run_valid-ended.result.cause) (sym c.outcome.ensures.cause) of_module) c.outcome.ensures.done c.outcome.ensures.steps

pub returns-clause-placed : goal.returns-clause-placed
returns-clause-placed g c =
    let reported = subst (λ sources. IsPlaced sources c.at_place-cause.result) (sym c.outcome.ensures.sources) (c.at_place-cause.ensures.placed (c.run_valid-ended.ensures.placed c.args.sources)) in
    subst (IsPlaced c.outcome.result.sources) (sym c.outcome.ensures.cause) reported
