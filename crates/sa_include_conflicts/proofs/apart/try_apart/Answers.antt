use Rattle.std.proofs.Common.{◌∙◌, ap, arith, flat_map, subst, take_all}
use Rattle.sa_include_conflicts.specs.Clashes.{NoneClash}
use Rattle.sa_include_conflicts.specs.KnownSignatures.{signatures_of}
use Rattle.sa_include_conflicts.proofs.Separate.{more_apart}
use Rattle.sa_include_conflicts.proofs.apart.try_apart.Goals as goal

-- the next feature conflicts with none of those before it
pub loop-feature-preserved : goal.loop-feature-preserved
loop-feature-preserved c =
    more_apart c.args.immutable c.args.features.now c.loop-feature.feature-index c.feature-item.result c.loop-feature.known.shapes.keys c.add_feature.new.self.shapes.keys
    (omega arith) c.feature-item.is c.loop-feature.invariant c.in_ok-add_feature.ensures

pub returns-clause-none_clash : goal.returns-clause-none_clash
returns-clause-none_clash c = subst (NoneClash c.args.immutable) (take_all c.loop-feature.feature-index c.args.features.now c.loop-feature-test.false) c.loop-feature.invariant.none_clash

pub returns-clause-signatures : goal.returns-clause-signatures
returns-clause-signatures c = record {
  keys = c.loop-feature.invariant.listed ∙ ap (flat_map (signatures_of c.args.immutable)) (take_all c.loop-feature.feature-index c.args.features.now c.loop-feature-test.false);
}
