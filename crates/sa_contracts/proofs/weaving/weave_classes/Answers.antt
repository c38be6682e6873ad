-- One class more from the last one on, and none left.
use Rattle.std.proofs.Common.{List, sym, ap, ◌∙◌}
use Rattle.sa_ast.specs.declared.class.Class.{Class}
use Rattle.sa_contracts.specs.AskedChecks.{asked_by, asked_first, features_checks, woven_checks}
use Rattle.sa_contracts.specs.ContractTables.{duties_in}
use Rattle.sa_contracts.specs.WovenClasses.{woven_class}
use Rattle.sa_contracts.proofs.AskedLists.{classes-asked}
use Rattle.sa_contracts.proofs.WovenLists.{classes-popped}
use Rattle.sa_contracts.proofs.weaving.weave_classes.Goals as goal

pub loop-class-preserved : goal.loop-class-preserved
loop-class-preserved c = record {
  classes =
      c.loop-class.invariant.classes
      ∙ classes-popped (duties_in c.args.table.now) _ c.pop.new.self c.in-Some.class c.in_ok-weave_class.field-0 _ c.push.new.self.items
      c.in-Some.ensures (c.in_ok-weave_class.ensures.class ∙ ap (λ n. woven_class (duties_in c.args.table.now) n c.in-Some.class) c.len.ensures)
      c.in_ok-push.ensures.items;
  checks =
      c.loop-class.invariant.checks
      ∙ classes-asked (duties_in c.args.table.now) _ c.pop.new.self c.in-Some.class _ (asked_by c.weave_class.new.weaving.checks)
      c.in-Some.ensures
      (c.in_ok-weave_class.ensures.checks
      ∙ ap (λ n. asked_first (features_checks (duties_in c.args.table.now) n 0 c.in-Some.class.features) (asked_by c.loop-class.weaving.checks))
      c.len.ensures);
}

pub returns-clause-checks : goal.returns-clause-checks
returns-clause-checks c =
    sym
    (c.loop-class.invariant.checks
    ∙ ap (λ (list : List Class). asked_first (woven_checks (duties_in c.args.table.now) 0 list) (asked_by c.loop-class.weaving.checks))
    c.in_default.ensures.0)
