use Rattle.std.proofs.Common.{◌+◌, List, take, take_all, subst}
use Rattle.std.specs.List.{All}
use Rattle.std.proofs.lemmas.List.Elements.{All-more}
use Rattle.sa_ast.specs.declared.class.Feature.{Feature}
use Rattle.sa_subst.specs.Table.{put_in}
use Rattle.sa_include.specs.Included.{IsInherited}
use Rattle.sa_include.proofs.include_trial.try_features.Goals as goal

-- the next feature is included too
pub loop-feature-preserved : goal.loop-feature-preserved
loop-feature-preserved c =
    let bringing = c.args.bringing.now in
    let f = c.feature-item.result in
    let Is = λ (g : Feature). IsInherited bringing.changes.now (put_in bringing.by) bringing.immutable c.args.known.now.shapes.keys g in
    All-more Is c.args.features.now c.loop-feature.feature-index f c.loop-feature-test.true c.loop-feature.invariant
    (subst Is c.feature-item.is c.in_ok-try_feature.ensures)

pub returns : goal.returns
returns c =
    let bringing = c.args.bringing.now in
    subst (All (IsInherited bringing.changes.now (put_in bringing.by) bringing.immutable c.args.known.now.shapes.keys))
    (take_all c.loop-feature.feature-index c.args.features.now c.loop-feature-test.false) c.loop-feature.invariant
