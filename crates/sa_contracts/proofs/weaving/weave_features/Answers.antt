-- One feature more from the last one on, and none left.
use Rattle.std.proofs.Common.{List, sym, ap, ◌∙◌}
use Rattle.sa_ast.specs.declared.class.Feature.{Feature}
use Rattle.sa_contracts.specs.AskedChecks.{asked_by, asked_first, feature_checks, features_checks}
use Rattle.sa_contracts.specs.ContractTables.{duties_in}
use Rattle.sa_contracts.specs.WovenClasses.{woven_feature}
use Rattle.sa_contracts.proofs.AskedLists.{features-asked}
use Rattle.sa_contracts.proofs.WovenLists.{features-popped}
use Rattle.sa_contracts.proofs.weaving.weave_features.Goals as goal

pub loop-feature-preserved : goal.loop-feature-preserved
loop-feature-preserved c = record {
  features = c.loop-feature.invariant.features ∙ features-popped (duties_in c.args.table.now) c.args.class _ c.pop.new.self c.in-Some.feature c.in_ok-weave_feature.field-0 _ c.push.new.self.items c.in-Some.ensures (c.in_ok-weave_feature.ensures.feature ∙ ap (λ n. woven_feature c.in-Some.feature (duties_in c.args.table.now c.args.class n c.in-Some.feature)) c.len.ensures) c.in_ok-push.ensures.items;
  checks = c.loop-feature.invariant.checks ∙ features-asked (duties_in c.args.table.now) c.args.class _ c.pop.new.self c.in-Some.feature _ (asked_by c.weave_feature.new.weaving.checks) c.in-Some.ensures (c.in_ok-weave_feature.ensures.checks ∙ ap (λ n. asked_first (feature_checks c.in-Some.feature (duties_in c.args.table.now c.args.class n c.in-Some.feature)) (asked_by c.loop-feature.weaving.checks)) c.len.ensures);
}

pub returns-clause-checks : goal.returns-clause-checks
returns-clause-checks c =
    sym (c.loop-feature.invariant.checks ∙ ap (λ (list : List Feature). asked_first (features_checks (duties_in c.args.table.now) c.args.class 0 list) (asked_by c.loop-feature.weaving.checks)) c.in_default.ensures.0)
