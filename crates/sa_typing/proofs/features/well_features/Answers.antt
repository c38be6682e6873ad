-- A feature that isn't well typed, and one that is.
use Rattle.std.proofs.Common.{arith, sym, ◌∙◌}
use Rattle.sa_typing.specs.Features.{well_feature}
use Rattle.sa_typing.specs.Rows.{rows}
use Rattle.sa_typing.proofs.Listed.{list_all-fails, list_all-goes}
use Rattle.sa_typing.proofs.features.well_features.Goals as goal

pub returns-then-not-branch : goal.returns-then-not-branch
returns-then-not-branch c =
    sym (c.loop-feature.invariant
    ∙ list_all-fails (well_feature (rows c.args.view.now)) c.args.view.now.features.now c.loop-feature.feature-index c.feature-item.result (omega arith) c.feature-item.is (sym c.if-not-branch.true ∙ c.in_ok-well_feature.ensures))

pub loop-feature-preserved : goal.loop-feature-preserved
loop-feature-preserved c =
    c.loop-feature.invariant
    ∙ list_all-goes (well_feature (rows c.args.view.now)) c.args.view.now.features.now c.loop-feature.feature-index c.feature-item.result (omega arith) c.feature-item.is (sym c.if-not-branch.false ∙ c.in_ok-well_feature.ensures)
